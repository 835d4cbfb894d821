-- What holds of the words that are printed for programs.
use Rattle.std.specs.Prelude.{ℕ, ◌≤◌, [], ◌∷◌}
use Rattle.av_tree.specs.declared.table.Symbol.TheVariants as symbol
use Rattle.av_tree.specs.declared.table.Name.TheVariants as name
use Rattle.av_tree.specs.declared.table.file.FileName.TheVariants as file_name
use Rattle.av_values.specs.declared.value.Value.TheVariants as value
use Rattle.av_printer.specs.declared.form.Form.{Form}
use Rattle.av_printer.specs.Spelling.{pieces_of}
use Rattle.av_print_laws.specs.Spacing.{words_of}
use Rattle.av_read_laws.specs.Making.{Makes}
use Rattle.av_program_laws.specs.Programs.{Program}
use Rattle.av_program_laws.specs.WrittenTrees.{written_tree}
use Rattle.av_program_laws.specs.ReadTrees.{read_tree}
use Rattle.av_program_laws.specs.Sound.{IsSound}

-- In either form, the rows of the format make of the words that are printed for a sound program the tree as which it is read
-- again, where two signs of calculation may stand in an expression.
abbrev pub RereadLaw : Type 0
RereadLaw = (form : Form) (most : ℕ) (p : Program) → 2 ≤ most → IsSound p
    → Makes most (symbol.Rows (name.File file_name.File) ∷ []) (words_of (pieces_of form (written_tree p).root)) (value.Tree (read_tree form p) ∷ [])
