-- The rows by which the signs and words of calculation in an expression are counted.
use Rattle.std.specs.Prelude.{Bool, true, false}
use Rattle.av_tree.specs.declared.table.Rule.{Rule}
use Rattle.av_tree.specs.declared.table.Rule.TheVariants as rule
use Rattle.av_tree.specs.declared.table.maps.MapRule.TheVariants as maps
use Rattle.av_tree.specs.declared.table.subscripts.SubscriptRule.TheVariants as subscripts

-- an expression begins with the row, and its count with 0
abbrev pub begins_expression : Rule → Bool
begins_expression (rule.Map maps.WholeExpression) = true
begins_expression (rule.Subscript subscripts.WholeSubscript) = true
begins_expression _ = false

-- the row begins with a sign or word that is counted
abbrev pub counts_sign : Rule → Bool
counts_sign (rule.Map maps.PlusTerm) = true
counts_sign (rule.Map maps.MinusTerm) = true
counts_sign (rule.Map maps.TimesFactor) = true
counts_sign (rule.Map maps.DivisionFactor) = true
counts_sign (rule.Map maps.MinusFactor) = true
counts_sign (rule.Map maps.DivisionName) = true
counts_sign (rule.Subscript subscripts.PlusSubscriptTerm) = true
counts_sign (rule.Subscript subscripts.MinusSubscriptTerm) = true
counts_sign (rule.Subscript subscripts.TimesSubscriptFactor) = true
counts_sign (rule.Subscript subscripts.DivisionSubscriptFactor) = true
counts_sign (rule.Subscript subscripts.MinusSubscriptFactor) = true
counts_sign _ = false
