-- What the rows of subscripts make of the values of their symbols. A list holds its last item first.
use Rattle.std.specs.Prelude.{List, [], ◌∷◌, ◌++◌, reverse, true, false, Option, Some}
use Rattle.av_tree.specs.declared.table.subscripts.SubscriptRule.{SubscriptRule}
use Rattle.av_tree.specs.declared.table.subscripts.SubscriptRule.TheVariants as subscripts_rule
use Rattle.av_tree.specs.rows.SubscriptRows.{symbols_of, name_of}
use Rattle.av_tree.specs.declared.written.ExprText.TheVariants as expr
use Rattle.av_values.specs.declared.value.Operator.TheVariants as operator
use Rattle.av_values.specs.declared.value.LeafKind.TheVariants as leaf_kind
use Rattle.av_values.specs.Numbers.{spelled_integer}
use Rattle.av_values.specs.Expressions.{division_of, joined_left}
use Rattle.av_values.specs.Sorts.{All, Of, replaced, sort_of, sorts_of}
use Rattle.av_values.specs.declared.value.Value.{Value}

abbrev pub made : (r : SubscriptRule) → All (sorts_of (symbols_of r)) → Of (sort_of (name_of r))
made subscripts_rule.NoSubscripts _ = []
made subscripts_rule.FirstSubscript (one, (others, _)) = others ++ one ∷ []
made subscripts_rule.NoMoreSubscripts _ = []
made subscripts_rule.NextSubscript (one, (others, _)) = others ++ one ∷ []
made subscripts_rule.WholeSubscript (first, (parts, _)) = joined_left first (reverse parts)
made subscripts_rule.NoMoreSubscriptTerms _ = []
made subscripts_rule.PlusSubscriptTerm (right, (others, _)) = others ++ record { operator = operator.Add; right = right } ∷ []
made subscripts_rule.MinusSubscriptTerm (right, (others, _)) = others ++ record { operator = operator.Sub; right = right } ∷ []
made subscripts_rule.WholeSubscriptTerm (first, (parts, _)) = joined_left first (reverse parts)
made subscripts_rule.NoMoreSubscriptFactors _ = []
made subscripts_rule.TimesSubscriptFactor (right, (others, _)) = others ++ record { operator = operator.Mul; right = right } ∷ []
made subscripts_rule.DivisionSubscriptFactor (word, (right, (others, _))) = others ++ record { operator = division_of word; right = right } ∷ []
made subscripts_rule.NumberSubscriptFactor (digits, _) = record { expr = expr.Const (spelled_integer digits false); leaves = [] }
made subscripts_rule.PlainSubscriptFactor (e, _) = e
made subscripts_rule.MinusSubscriptFactor (e, _) = e
made subscripts_rule.NegativeSubscriptNumber (digits, _) = record { expr = expr.Const (spelled_integer digits true); leaves = [] }
made subscripts_rule.NegatedSubscriptBase (e, _) = record { expr = expr.Neg e.expr; leaves = e.leaves }
made subscripts_rule.DimensionValue (name, _) = record { expr = expr.Name name; leaves = leaf_kind.Dimension ∷ [] }
made subscripts_rule.SymbolValue (name, _) = record { expr = expr.Name name; leaves = leaf_kind.Symbol ∷ [] }
made subscripts_rule.SubscriptInBrackets (first, (parts, _)) = joined_left first (reverse parts)

-- what a row does to a stack of values
abbrev pub by_row : SubscriptRule → List Value → Option (List Value)
by_row r = replaced (sorts_of (symbols_of r)) (sort_of (name_of r)) (λ values. Some (made r values))
