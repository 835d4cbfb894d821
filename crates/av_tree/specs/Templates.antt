-- The named forms of operations, by the bytes of their names.
use Rattle.std.specs.Prelude.{ℕ, List, Option, option_map}
use Rattle.av_dialects.specs.Rows.{number_of}
use Rattle.av_tree.specs.declared.types.Template.{Template}

abbrev pub by_row : ℕ → Template
by_row number = record { operation = number }

-- the named form of an operation with this name: its row in the table of operations, or none where that has no such name
abbrev pub template_of : List ℕ → Option Template
template_of name = option_map by_row (number_of name)
