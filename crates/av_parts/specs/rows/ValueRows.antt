-- What the rows of values, numbers and results make of the values of their symbols. A list holds its last item first.
use Rattle.std.specs.Prelude.{List, [], ◌∷◌, ◌++◌, codes, true, false, Option, Some}
use Rattle.av_tree.specs.declared.table.values.ValueRule.{ValueRule}
use Rattle.av_tree.specs.declared.table.values.ValueRule.TheVariants as values_rule
use Rattle.av_tree.specs.rows.ValueRows.{symbols_of, name_of}
use Rattle.av_values.specs.Numbers.{spelled_integer}
use Rattle.av_values.specs.Sorts.{All, Of, replaced, sort_of, sorts_of}
use Rattle.av_values.specs.declared.value.Value.{Value}

abbrev pub made : (r : ValueRule) → All (sorts_of (symbols_of r)) → Of (sort_of (name_of r))
made values_rule.NamedValue (name, (number, _)) = name ++ number
made values_rule.NoResultNumber _ = []
made values_rule.WrittenResultNumber (number, _) = number
made values_rule.NoValues _ = []
made values_rule.FirstValue (one, (others, _)) = others ++ one ∷ []
made values_rule.NoMoreValues _ = []
made values_rule.NextValue (one, (others, _)) = others ++ one ∷ []
made values_rule.NoFurtherValue _ = []
made values_rule.FurtherValue (value, _) = value ∷ []
made values_rule.PlainInteger (digits, _) = spelled_integer digits false
made values_rule.NegativeInteger (digits, _) = spelled_integer digits true
made values_rule.NoIntegers _ = []
made values_rule.FirstInteger (number, (others, _)) = others ++ number ∷ []
made values_rule.NoMoreIntegers _ = []
made values_rule.NextInteger (number, (others, _)) = others ++ number ∷ []
made values_rule.ResultNames (name, (count, (others, _))) = others ++ (name ++ count) ∷ []
made values_rule.NoMoreResults _ = []
made values_rule.NextResult (name, (count, (others, _))) = others ++ (name ++ count) ∷ []
made values_rule.OneResult _ = []
made values_rule.CountedResults (digits, _) = codes ":" ++ digits

-- what a row does to a stack of values
abbrev pub by_row : ValueRule → List Value → Option (List Value)
by_row r = replaced (sorts_of (symbols_of r)) (sort_of (name_of r)) (λ values. Some (made r values))
