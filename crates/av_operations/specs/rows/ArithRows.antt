-- What the rows of constants, of the types of a choice and of flags of overflow make of the values of their symbols. A list holds its last item first.
use Rattle.std.specs.Prelude.{ℕ, List, [], ◌∷◌, ◌++◌, codes, reverse, Option, None, Some}
use Rattle.av_tree.specs.declared.table.arith.ArithRule.{ArithRule}
use Rattle.av_tree.specs.declared.table.arith.ArithRule.TheVariants as arith_rule
use Rattle.av_tree.specs.rows.ArithRows.{symbols_of, name_of}
use Rattle.av_tree.specs.declared.attribute.Attr.TheVariants as attr
use Rattle.av_tree.specs.declared.written.TypeText.TheVariants as ty
use Rattle.av_values.specs.Nodes.{entry}
use Rattle.av_values.specs.Forms.{selected_of}
use Rattle.av_values.specs.Spellings.{is_true}
use Rattle.av_values.specs.declared.value.Value.{Value}
use Rattle.av_values.specs.Sorts.{All, Of, replaced, sort_of, sorts_of}

abbrev pub made : (r : ArithRule) → ℕ → All (sorts_of (symbols_of r)) → Of (sort_of (name_of r))
made arith_rule.BoolConstant place (word, _) = record { value = attr.Bool (is_true word); ty = None }
made arith_rule.NumberConstant place (value, (type, _)) = record { value = attr.Number value type; ty = Some type }
made arith_rule.DenseConstant place (dense, _) = record { value = attr.Dense dense.elements dense.ty; ty = Some dense.ty }
made arith_rule.NoOverflow place _ = []
made arith_rule.WrittenOverflow place (flag, (others, _)) =
    entry (codes "overflowFlags") (attr.Hash (codes "#arith.overflow") (reverse (others ++ flag ∷ []))) ∷ []
made arith_rule.NoMoreOverflowFlags place _ = []
made arith_rule.NextOverflowFlag place (flag, (others, _)) = others ++ flag ∷ []
made arith_rule.ScalarSelected place (name, _) = record { condition = None; operands = ty.Scalar name }
made arith_rule.BufferSelected place (type, _) = record { condition = None; operands = type }
made arith_rule.VectorThenSelected place (first, (next, _)) = selected_of first next
made arith_rule.OnlySelected place _ = None
made arith_rule.SelectedByVector place (type, _) = Some type

-- what a row whose first token stands at a place does to a stack of values
abbrev pub by_row : ArithRule → ℕ → List Value → Option (List Value)
by_row r place = replaced (sorts_of (symbols_of r)) (sort_of (name_of r)) (λ values. Some (made r place values))
