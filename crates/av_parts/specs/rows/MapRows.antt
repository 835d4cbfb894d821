-- What the rows of maps and expressions make of the values of their symbols. A list holds its last item first.
use Rattle.std.specs.Prelude.{List, [], ◌∷◌, ◌++◌, map, reverse, Bool, true, false, Option, Some}
use Rattle.av_tree.specs.declared.table.maps.MapRule.{MapRule}
use Rattle.av_tree.specs.declared.table.maps.MapRule.TheVariants as maps_rule
use Rattle.av_tree.specs.rows.MapRows.{symbols_of, name_of}
use Rattle.av_tree.specs.declared.attribute.Attr.TheVariants as attr
use Rattle.av_tree.specs.declared.written.ExprText.TheVariants as expr
use Rattle.av_values.specs.declared.value.Expression.{Expression}
use Rattle.av_values.specs.declared.value.Operator.{Operator}
use Rattle.av_values.specs.declared.value.Operator.TheVariants as operator
use Rattle.av_values.specs.declared.value.LeafKind.{LeafKind}
use Rattle.av_values.specs.declared.value.Parameters.{Parameters}
use Rattle.av_tree.specs.declared.written.MapText.{MapText}
use Rattle.av_tree.specs.declared.written.RowText.{RowText}
use Rattle.av_tree.specs.declared.written.SetText.{SetText}
use Rattle.av_values.specs.Numbers.{spelled_integer}
use Rattle.av_values.specs.Expressions.{division_of, joined_left}
use Rattle.av_values.specs.Sorts.{All, Of, a_text, a_expression, a_parts, replaced, sort_of, sorts_of}
use Rattle.av_values.specs.declared.value.Value.{Value}

-- the map of these parameters and expressions, the lists from the last to the first
abbrev pub map_of : Parameters → List Expression → MapText
map_of parameters expressions = record {
  dims = reverse parameters.dims;
  syms = reverse parameters.syms;
  results = map (λ (e : Expression). e.expr) (reverse expressions);
}

-- the set of these parameters and rows, the lists from the last to the first
abbrev pub set_of : Parameters → List RowText → SetText
set_of parameters rows = record {
  dims = reverse parameters.dims;
  syms = reverse parameters.syms;
  rows = reverse rows;
}

abbrev pub made : (r : MapRule) → All (sorts_of (symbols_of r)) → Of (sort_of (name_of r))
made maps_rule.WrittenMap (parameters, (expressions, _)) = attr.Map (map_of parameters expressions)
made maps_rule.WrittenSet (parameters, (rows, _)) = attr.Set (set_of parameters rows)
made maps_rule.DimensionNames (dims, (syms, _)) = record { dims = dims; syms = syms }
made maps_rule.NoSymbolNames _ = []
made maps_rule.WrittenSymbolNames (names, _) = names
made maps_rule.NoWords _ = []
made maps_rule.FirstWord (word, (others, _)) = others ++ word ∷ []
made maps_rule.NoMoreWords _ = []
made maps_rule.NextWord (word, (others, _)) = others ++ word ∷ []
made maps_rule.NoExpressions _ = []
made maps_rule.FirstExpression (one, (others, _)) = others ++ one ∷ []
made maps_rule.NoMoreExpressions _ = []
made maps_rule.NextExpression (one, (others, _)) = others ++ one ∷ []
made maps_rule.NoSetRows _ = []
made maps_rule.FirstSetRow (row, (others, _)) = others ++ row ∷ []
made maps_rule.NoMoreSetRows _ = []
made maps_rule.NextSetRow (row, (others, _)) = others ++ row ∷ []
made maps_rule.RowOfSet (left, (equal, _)) = record { left = left.expr; equal = equal }
made maps_rule.AtLeastZero _ = false
made maps_rule.EqualToZero _ = true
made maps_rule.WholeExpression (first, (parts, _)) = joined_left first (reverse parts)
made maps_rule.NoMoreTerms _ = []
made maps_rule.PlusTerm (right, (others, _)) = others ++ record { operator = operator.Add; right = right } ∷ []
made maps_rule.MinusTerm (right, (others, _)) = others ++ record { operator = operator.Sub; right = right } ∷ []
made maps_rule.WholeTerm (first, (parts, _)) = joined_left first (reverse parts)
made maps_rule.NoMoreFactors _ = []
made maps_rule.TimesFactor (right, (others, _)) = others ++ record { operator = operator.Mul; right = right } ∷ []
made maps_rule.DivisionFactor (word, (right, (others, _))) = others ++ record { operator = division_of word; right = right } ∷ []
made maps_rule.NumberFactor (digits, _) = record { expr = expr.Const (spelled_integer digits false); leaves = [] }
made maps_rule.PlainFactor (e, _) = e
made maps_rule.MinusFactor (e, _) = e
made maps_rule.NegativeNumber (digits, _) = record { expr = expr.Const (spelled_integer digits true); leaves = [] }
made maps_rule.NegatedBase (e, _) = record { expr = expr.Neg e.expr; leaves = e.leaves }
made maps_rule.ParameterName (name, _) = record { expr = expr.Name name; leaves = [] }
made maps_rule.DivisionName (name, _) = record { expr = expr.Name name; leaves = [] }
made maps_rule.InBrackets (first, (parts, _)) = joined_left first (reverse parts)

-- what a row does to a stack of values
abbrev pub by_row : MapRule → List Value → Option (List Value)
by_row r = replaced (sorts_of (symbols_of r)) (sort_of (name_of r)) (λ values. Some (made r values))

-- puts a part of a sign or word before the other parts
abbrev pub part_put : Operator → List Value → Option (List Value)
part_put sign = replaced (a_expression ∷ a_parts ∷ []) a_parts (λ values. Some (values.1.0 ++ record { operator = sign; right = values.0 } ∷ []))

-- makes an expression of the digits of a number, with a `-` before them or without
abbrev pub number_put : Bool → List Value → Option (List Value)
number_put negative = replaced (a_text ∷ []) a_expression (λ values. Some (record { expr = expr.Const (spelled_integer values.0 negative); leaves = [] }))

-- makes an expression of the name of a value, which stands as a dimension or as a symbol
abbrev pub leaf_put : LeafKind → List Value → Option (List Value)
leaf_put kind = replaced (a_text ∷ []) a_expression (λ values. Some (record { expr = expr.Name values.0; leaves = kind ∷ [] }))
