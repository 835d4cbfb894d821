-- What the rows of maps with their operands and of the parts of loops make of the values of their symbols. A list holds its last item first.
use Rattle.std.specs.Prelude.{ℕ, List, [], ◌∷◌, ◌++◌, false, pos, reverse, Option, Some}
use Rattle.av_tree.specs.declared.table.affine.AffineRule.{AffineRule}
use Rattle.av_tree.specs.declared.table.affine.AffineRule.TheVariants as affine_rule
use Rattle.av_tree.specs.rows.AffineRows.{symbols_of, name_of}
use Rattle.av_values.specs.Numbers.{spelled_integer}
use Rattle.av_values.specs.Loops.{bound_of_number, bound_of_value}
use Rattle.av_tree.specs.declared.attribute.Attr.TheVariants as attr
use Rattle.av_values.specs.declared.value.Value.{Value}
use Rattle.av_values.specs.Sorts.{All, Of, replaced, sort_of, sorts_of}

abbrev pub made : (r : AffineRule) → ℕ → All (sorts_of (symbols_of r)) → Of (sort_of (name_of r))
made affine_rule.GreatestOf place (bound, _) = bound
made affine_rule.PlainLowerBound place (bound, _) = bound
made affine_rule.LeastOf place (bound, _) = bound
made affine_rule.PlainUpperBound place (bound, _) = bound
made affine_rule.NumberBound place (number, _) = bound_of_number number
made affine_rule.ValueBound place (value, _) = bound_of_value value
made affine_rule.MapBound place (bound, _) = bound
made affine_rule.NoStep place _ = pos 1
made affine_rule.WrittenStep place (digits, _) = spelled_integer digits false
made affine_rule.NoIterArgs place _ = record { pairs = []; types = [] }
made affine_rule.WrittenIterArgs place (carried, _) = carried
made affine_rule.NoCarried place _ = record { pairs = []; types = [] }
made affine_rule.FirstCarried place (name, (init, (carried, (type, _)))) =
    record { pairs = carried.pairs ++ record { name = name; init = init } ∷ []; types = carried.types ++ type ∷ [] }
made affine_rule.NoMoreCarried place _ = record { pairs = []; types = [] }
made affine_rule.NextCarried place (name, (init, (carried, (type, _)))) =
    record { pairs = carried.pairs ++ record { name = name; init = init } ∷ []; types = carried.types ++ type ∷ [] }
made affine_rule.MapWritten place (map, (operands, _)) = record { map = map; operands = reverse operands }
made affine_rule.MapByAlias place (name, (operands, _)) = record { map = attr.AliasUse name; operands = reverse operands }
made affine_rule.SetWritten place (set, (operands, _)) = record { map = set; operands = reverse operands }
made affine_rule.SetByAlias place (name, (operands, _)) = record { map = attr.AliasUse name; operands = reverse operands }
made affine_rule.DimensionOperands place (dims, (syms, _)) = syms ++ dims
made affine_rule.NoSymbolOperands place _ = []
made affine_rule.WrittenSymbolOperands place (operands, _) = operands
made affine_rule.NoElse place _ = []
made affine_rule.WrittenElse place (nodes, _) = nodes

-- what a row whose first token stands at a place does to a stack of values
abbrev pub by_row : AffineRule → ℕ → List Value → Option (List Value)
by_row r place = replaced (sorts_of (symbols_of r)) (sort_of (name_of r)) (λ values. Some (made r place values))
