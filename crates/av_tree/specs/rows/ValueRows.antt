-- The rows of values, numbers and results: the symbols of each, and the name that it is a row of.
use Rattle.std.specs.Prelude.{List, [], ◌∷◌}
use Rattle.av_tree.specs.declared.table.Symbol.{Symbol}
use Rattle.av_tree.specs.declared.table.Symbol.TheVariants as symbol
use Rattle.av_tree.specs.declared.table.Name.{Name}
use Rattle.av_tree.specs.declared.table.Name.TheVariants as name
use Rattle.av_tree.specs.declared.table.values.ValueRule.{ValueRule}
use Rattle.av_tree.specs.declared.table.values.ValueRule.TheVariants as values_rule
use Rattle.av_tree.specs.declared.table.values.ValueName.TheVariants as values_name
use Rattle.av_lex.specs.declared.token.Sign.TheVariants as sign
use Rattle.av_tree.specs.declared.table.Test.TheVariants as test
use Rattle.av_tree.specs.declared.class.Class.{Class}
use Rattle.av_tree.specs.declared.class.Class.TheVariants as class
use Rattle.av_tree.specs.declared.table.Rule.{Rule}
use Rattle.av_tree.specs.declared.table.Rule.TheVariants as rule
use Rattle.av_tree.specs.declared.table.values.ValueName.{ValueName}

abbrev pub symbols_of : ValueRule → List Symbol
symbols_of values_rule.NamedValue = (symbol.Token test.ValId) ∷ (symbol.Rows (name.Value values_name.ResultNumber)) ∷ []
symbols_of values_rule.NoResultNumber = []
symbols_of values_rule.WrittenResultNumber = (symbol.Token test.HashDigits) ∷ []
symbols_of values_rule.NoValues = []
symbols_of values_rule.FirstValue = (symbol.Rows (name.Value values_name.Value)) ∷ (symbol.Rows (name.Value values_name.MoreValues)) ∷ []
symbols_of values_rule.NoMoreValues = []
symbols_of values_rule.NextValue = (symbol.Sign sign.Comma) ∷ (symbol.Rows (name.Value values_name.Value)) ∷ (symbol.Rows (name.Value values_name.MoreValues)) ∷ []
symbols_of values_rule.NoFurtherValue = []
symbols_of values_rule.FurtherValue = (symbol.Sign sign.Comma) ∷ (symbol.Rows (name.Value values_name.Value)) ∷ []
symbols_of values_rule.PlainInteger = (symbol.Token test.Number) ∷ []
symbols_of values_rule.NegativeInteger = (symbol.Sign sign.Minus) ∷ (symbol.Token test.Number) ∷ []
symbols_of values_rule.NoIntegers = []
symbols_of values_rule.FirstInteger = (symbol.Rows (name.Value values_name.Integer)) ∷ (symbol.Rows (name.Value values_name.MoreIntegers)) ∷ []
symbols_of values_rule.NoMoreIntegers = []
symbols_of values_rule.NextInteger = (symbol.Sign sign.Comma) ∷ (symbol.Rows (name.Value values_name.Integer)) ∷ (symbol.Rows (name.Value values_name.MoreIntegers)) ∷ []
symbols_of values_rule.ResultNames = (symbol.Token test.ValId) ∷ (symbol.Rows (name.Value values_name.ResultCount)) ∷ (symbol.Rows (name.Value values_name.MoreResults)) ∷ (symbol.Sign sign.Equal) ∷ []
symbols_of values_rule.NoMoreResults = []
symbols_of values_rule.NextResult = (symbol.Sign sign.Comma) ∷ (symbol.Token test.ValId) ∷ (symbol.Rows (name.Value values_name.ResultCount)) ∷ (symbol.Rows (name.Value values_name.MoreResults)) ∷ []
symbols_of values_rule.OneResult = []
symbols_of values_rule.CountedResults = (symbol.Sign sign.Colon) ∷ (symbol.Token test.Number) ∷ []

abbrev pub name_of : ValueRule → Name
name_of values_rule.NamedValue = name.Value values_name.Value
name_of values_rule.NoResultNumber = name.Value values_name.ResultNumber
name_of values_rule.WrittenResultNumber = name.Value values_name.ResultNumber
name_of values_rule.NoValues = name.Value values_name.Values
name_of values_rule.FirstValue = name.Value values_name.Values
name_of values_rule.NoMoreValues = name.Value values_name.MoreValues
name_of values_rule.NextValue = name.Value values_name.MoreValues
name_of values_rule.NoFurtherValue = name.Value values_name.OptionalValue
name_of values_rule.FurtherValue = name.Value values_name.OptionalValue
name_of values_rule.PlainInteger = name.Value values_name.Integer
name_of values_rule.NegativeInteger = name.Value values_name.Integer
name_of values_rule.NoIntegers = name.Value values_name.Integers
name_of values_rule.FirstInteger = name.Value values_name.Integers
name_of values_rule.NoMoreIntegers = name.Value values_name.MoreIntegers
name_of values_rule.NextInteger = name.Value values_name.MoreIntegers
name_of values_rule.ResultNames = name.Value values_name.Results
name_of values_rule.NoMoreResults = name.Value values_name.MoreResults
name_of values_rule.NextResult = name.Value values_name.MoreResults
name_of values_rule.OneResult = name.Value values_name.ResultCount
name_of values_rule.CountedResults = name.Value values_name.ResultCount

-- the row of a name that can begin with a token of this class, or any of its rows where none can
abbrev pub choice_of : ValueName → Class → Rule
choice_of values_name.Value _ = rule.Value values_rule.NamedValue
choice_of values_name.ResultNumber class.HashDigits = rule.Value values_rule.WrittenResultNumber
choice_of values_name.ResultNumber _ = rule.Value values_rule.NoResultNumber
choice_of values_name.Values class.ValId = rule.Value values_rule.FirstValue
choice_of values_name.Values _ = rule.Value values_rule.NoValues
choice_of values_name.MoreValues (class.Sign sign.Comma) = rule.Value values_rule.NextValue
choice_of values_name.MoreValues _ = rule.Value values_rule.NoMoreValues
choice_of values_name.OptionalValue (class.Sign sign.Comma) = rule.Value values_rule.FurtherValue
choice_of values_name.OptionalValue _ = rule.Value values_rule.NoFurtherValue
choice_of values_name.Integer (class.Sign sign.Minus) = rule.Value values_rule.NegativeInteger
choice_of values_name.Integer _ = rule.Value values_rule.PlainInteger
choice_of values_name.Integers (class.Sign sign.CloseSquare) = rule.Value values_rule.NoIntegers
choice_of values_name.Integers _ = rule.Value values_rule.FirstInteger
choice_of values_name.MoreIntegers (class.Sign sign.Comma) = rule.Value values_rule.NextInteger
choice_of values_name.MoreIntegers _ = rule.Value values_rule.NoMoreIntegers
choice_of values_name.Results _ = rule.Value values_rule.ResultNames
choice_of values_name.MoreResults (class.Sign sign.Comma) = rule.Value values_rule.NextResult
choice_of values_name.MoreResults _ = rule.Value values_rule.NoMoreResults
choice_of values_name.ResultCount (class.Sign sign.Colon) = rule.Value values_rule.CountedResults
choice_of values_name.ResultCount _ = rule.Value values_rule.OneResult
