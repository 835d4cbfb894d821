-- What the rows of the format make of the words of pieces.
use Rattle.std.specs.Prelude.{ℕ, List}
use Rattle.av_tree.specs.declared.table.Symbol.{Symbol}
use Rattle.av_printer.specs.Pieces.{Piece}
use Rattle.av_values.specs.declared.value.Value.{Value}
use Rattle.av_print_laws.specs.Spacing.{words_of}
use Rattle.av_read_laws.specs.Making.{Makes}

-- From the left, the symbols give the words of these pieces, and the values are made of them, the first one on top.
pub record Gives (most : ℕ) (ss : List Symbol) (ps : List Piece) (vs : List Value) : Type 0 where
  pub makes : Makes most ss (words_of ps) vs
