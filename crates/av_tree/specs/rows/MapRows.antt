-- The rows of maps, sets and their expressions: the symbols of each, and the name that it is a row of.
use Rattle.std.specs.Prelude.{List, [], ◌∷◌}
use Rattle.av_tree.specs.declared.table.Symbol.{Symbol}
use Rattle.av_tree.specs.declared.table.Symbol.TheVariants as symbol
use Rattle.av_tree.specs.declared.table.Name.{Name}
use Rattle.av_tree.specs.declared.table.Name.TheVariants as name
use Rattle.av_tree.specs.declared.table.maps.MapRule.{MapRule}
use Rattle.av_tree.specs.declared.table.maps.MapRule.TheVariants as maps_rule
use Rattle.av_tree.specs.declared.table.maps.MapName.TheVariants as maps_name
use Rattle.av_lex.specs.declared.token.Sign.TheVariants as sign
use Rattle.av_tree.specs.declared.class.Keyword.TheVariants as key
use Rattle.av_tree.specs.declared.table.Test.TheVariants as test
use Rattle.av_tree.specs.declared.class.Class.{Class}
use Rattle.av_tree.specs.declared.class.Class.TheVariants as class
use Rattle.av_tree.specs.declared.table.Rule.{Rule}
use Rattle.av_tree.specs.declared.table.Rule.TheVariants as rule
use Rattle.av_tree.specs.declared.table.maps.MapName.{MapName}

abbrev pub symbols_of : MapRule → List Symbol
symbols_of maps_rule.WrittenMap = (symbol.Word key.AffineMap) ∷ (symbol.Sign sign.OpenAngle) ∷ (symbol.Rows (name.Map maps_name.Parameters)) ∷ (symbol.Sign sign.Arrow) ∷ (symbol.Sign sign.OpenRound) ∷ (symbol.Rows (name.Map maps_name.Expressions)) ∷ (symbol.Sign sign.CloseRound) ∷ (symbol.Sign sign.CloseAngle) ∷ []
symbols_of maps_rule.WrittenSet = (symbol.Word key.AffineSet) ∷ (symbol.Sign sign.OpenAngle) ∷ (symbol.Rows (name.Map maps_name.Parameters)) ∷ (symbol.Sign sign.Colon) ∷ (symbol.Sign sign.OpenRound) ∷ (symbol.Rows (name.Map maps_name.SetRows)) ∷ (symbol.Sign sign.CloseRound) ∷ (symbol.Sign sign.CloseAngle) ∷ []
symbols_of maps_rule.DimensionNames = (symbol.Sign sign.OpenRound) ∷ (symbol.Rows (name.Map maps_name.Words)) ∷ (symbol.Sign sign.CloseRound) ∷ (symbol.Rows (name.Map maps_name.SymbolNames)) ∷ []
symbols_of maps_rule.NoSymbolNames = []
symbols_of maps_rule.WrittenSymbolNames = (symbol.Sign sign.OpenSquare) ∷ (symbol.Rows (name.Map maps_name.Words)) ∷ (symbol.Sign sign.CloseSquare) ∷ []
symbols_of maps_rule.NoWords = []
symbols_of maps_rule.FirstWord = (symbol.Token test.Word) ∷ (symbol.Rows (name.Map maps_name.MoreWords)) ∷ []
symbols_of maps_rule.NoMoreWords = []
symbols_of maps_rule.NextWord = (symbol.Sign sign.Comma) ∷ (symbol.Token test.Word) ∷ (symbol.Rows (name.Map maps_name.MoreWords)) ∷ []
symbols_of maps_rule.NoExpressions = []
symbols_of maps_rule.FirstExpression = (symbol.Rows (name.Map maps_name.Expression)) ∷ (symbol.Rows (name.Map maps_name.MoreExpressions)) ∷ []
symbols_of maps_rule.NoMoreExpressions = []
symbols_of maps_rule.NextExpression = (symbol.Sign sign.Comma) ∷ (symbol.Rows (name.Map maps_name.Expression)) ∷ (symbol.Rows (name.Map maps_name.MoreExpressions)) ∷ []
symbols_of maps_rule.NoSetRows = []
symbols_of maps_rule.FirstSetRow = (symbol.Rows (name.Map maps_name.SetRow)) ∷ (symbol.Rows (name.Map maps_name.MoreSetRows)) ∷ []
symbols_of maps_rule.NoMoreSetRows = []
symbols_of maps_rule.NextSetRow = (symbol.Sign sign.Comma) ∷ (symbol.Rows (name.Map maps_name.SetRow)) ∷ (symbol.Rows (name.Map maps_name.MoreSetRows)) ∷ []
symbols_of maps_rule.RowOfSet = (symbol.Rows (name.Map maps_name.Expression)) ∷ (symbol.Rows (name.Map maps_name.RightSide)) ∷ []
symbols_of maps_rule.AtLeastZero = (symbol.Sign sign.AtLeast) ∷ (symbol.Token test.Zero) ∷ []
symbols_of maps_rule.EqualToZero = (symbol.Sign sign.EqualEqual) ∷ (symbol.Token test.Zero) ∷ []
symbols_of maps_rule.WholeExpression = (symbol.Rows (name.Map maps_name.Term)) ∷ (symbol.Rows (name.Map maps_name.Sum)) ∷ []
symbols_of maps_rule.NoMoreTerms = []
symbols_of maps_rule.PlusTerm = (symbol.Sign sign.Plus) ∷ (symbol.Rows (name.Map maps_name.Term)) ∷ (symbol.Rows (name.Map maps_name.Sum)) ∷ []
symbols_of maps_rule.MinusTerm = (symbol.Sign sign.Minus) ∷ (symbol.Rows (name.Map maps_name.Term)) ∷ (symbol.Rows (name.Map maps_name.Sum)) ∷ []
symbols_of maps_rule.WholeTerm = (symbol.Rows (name.Map maps_name.Factor)) ∷ (symbol.Rows (name.Map maps_name.Product)) ∷ []
symbols_of maps_rule.NoMoreFactors = []
symbols_of maps_rule.TimesFactor = (symbol.Sign sign.Star) ∷ (symbol.Rows (name.Map maps_name.Factor)) ∷ (symbol.Rows (name.Map maps_name.Product)) ∷ []
symbols_of maps_rule.DivisionFactor = (symbol.Token test.Division) ∷ (symbol.Rows (name.Map maps_name.Factor)) ∷ (symbol.Rows (name.Map maps_name.Product)) ∷ []
symbols_of maps_rule.NumberFactor = (symbol.Token test.Number) ∷ []
symbols_of maps_rule.PlainFactor = (symbol.Rows (name.Map maps_name.Base)) ∷ []
symbols_of maps_rule.MinusFactor = (symbol.Sign sign.Minus) ∷ (symbol.Rows (name.Map maps_name.Negated)) ∷ []
symbols_of maps_rule.NegativeNumber = (symbol.Token test.Number) ∷ []
symbols_of maps_rule.NegatedBase = (symbol.Rows (name.Map maps_name.Base)) ∷ []
symbols_of maps_rule.ParameterName = (symbol.Token test.Parameter) ∷ []
symbols_of maps_rule.DivisionName = (symbol.Token test.Division) ∷ []
symbols_of maps_rule.InBrackets = (symbol.Sign sign.OpenRound) ∷ (symbol.Rows (name.Map maps_name.Term)) ∷ (symbol.Rows (name.Map maps_name.Sum)) ∷ (symbol.Sign sign.CloseRound) ∷ []

abbrev pub name_of : MapRule → Name
name_of maps_rule.WrittenMap = name.Map maps_name.AffineMap
name_of maps_rule.WrittenSet = name.Map maps_name.AffineSet
name_of maps_rule.DimensionNames = name.Map maps_name.Parameters
name_of maps_rule.NoSymbolNames = name.Map maps_name.SymbolNames
name_of maps_rule.WrittenSymbolNames = name.Map maps_name.SymbolNames
name_of maps_rule.NoWords = name.Map maps_name.Words
name_of maps_rule.FirstWord = name.Map maps_name.Words
name_of maps_rule.NoMoreWords = name.Map maps_name.MoreWords
name_of maps_rule.NextWord = name.Map maps_name.MoreWords
name_of maps_rule.NoExpressions = name.Map maps_name.Expressions
name_of maps_rule.FirstExpression = name.Map maps_name.Expressions
name_of maps_rule.NoMoreExpressions = name.Map maps_name.MoreExpressions
name_of maps_rule.NextExpression = name.Map maps_name.MoreExpressions
name_of maps_rule.NoSetRows = name.Map maps_name.SetRows
name_of maps_rule.FirstSetRow = name.Map maps_name.SetRows
name_of maps_rule.NoMoreSetRows = name.Map maps_name.MoreSetRows
name_of maps_rule.NextSetRow = name.Map maps_name.MoreSetRows
name_of maps_rule.RowOfSet = name.Map maps_name.SetRow
name_of maps_rule.AtLeastZero = name.Map maps_name.RightSide
name_of maps_rule.EqualToZero = name.Map maps_name.RightSide
name_of maps_rule.WholeExpression = name.Map maps_name.Expression
name_of maps_rule.NoMoreTerms = name.Map maps_name.Sum
name_of maps_rule.PlusTerm = name.Map maps_name.Sum
name_of maps_rule.MinusTerm = name.Map maps_name.Sum
name_of maps_rule.WholeTerm = name.Map maps_name.Term
name_of maps_rule.NoMoreFactors = name.Map maps_name.Product
name_of maps_rule.TimesFactor = name.Map maps_name.Product
name_of maps_rule.DivisionFactor = name.Map maps_name.Product
name_of maps_rule.NumberFactor = name.Map maps_name.Factor
name_of maps_rule.PlainFactor = name.Map maps_name.Factor
name_of maps_rule.MinusFactor = name.Map maps_name.Factor
name_of maps_rule.NegativeNumber = name.Map maps_name.Negated
name_of maps_rule.NegatedBase = name.Map maps_name.Negated
name_of maps_rule.ParameterName = name.Map maps_name.Base
name_of maps_rule.DivisionName = name.Map maps_name.Base
name_of maps_rule.InBrackets = name.Map maps_name.Base

-- the row of a name that can begin with a token of this class, or any of its rows where none can
abbrev pub choice_of : MapName → Class → Rule
choice_of maps_name.AffineMap _ = rule.Map maps_rule.WrittenMap
choice_of maps_name.AffineSet _ = rule.Map maps_rule.WrittenSet
choice_of maps_name.Parameters _ = rule.Map maps_rule.DimensionNames
choice_of maps_name.SymbolNames (class.Sign sign.OpenSquare) = rule.Map maps_rule.WrittenSymbolNames
choice_of maps_name.SymbolNames _ = rule.Map maps_rule.NoSymbolNames
choice_of maps_name.Words (class.Sign sign.CloseRound) = rule.Map maps_rule.NoWords
choice_of maps_name.Words (class.Sign sign.CloseSquare) = rule.Map maps_rule.NoWords
choice_of maps_name.Words (class.Sign sign.CloseAngle) = rule.Map maps_rule.NoWords
choice_of maps_name.Words _ = rule.Map maps_rule.FirstWord
choice_of maps_name.MoreWords (class.Sign sign.Comma) = rule.Map maps_rule.NextWord
choice_of maps_name.MoreWords _ = rule.Map maps_rule.NoMoreWords
choice_of maps_name.Expressions (class.Sign sign.CloseRound) = rule.Map maps_rule.NoExpressions
choice_of maps_name.Expressions _ = rule.Map maps_rule.FirstExpression
choice_of maps_name.MoreExpressions (class.Sign sign.Comma) = rule.Map maps_rule.NextExpression
choice_of maps_name.MoreExpressions _ = rule.Map maps_rule.NoMoreExpressions
choice_of maps_name.SetRows (class.Sign sign.CloseRound) = rule.Map maps_rule.NoSetRows
choice_of maps_name.SetRows _ = rule.Map maps_rule.FirstSetRow
choice_of maps_name.MoreSetRows (class.Sign sign.Comma) = rule.Map maps_rule.NextSetRow
choice_of maps_name.MoreSetRows _ = rule.Map maps_rule.NoMoreSetRows
choice_of maps_name.SetRow _ = rule.Map maps_rule.RowOfSet
choice_of maps_name.RightSide (class.Sign sign.EqualEqual) = rule.Map maps_rule.EqualToZero
choice_of maps_name.RightSide _ = rule.Map maps_rule.AtLeastZero
choice_of maps_name.Expression _ = rule.Map maps_rule.WholeExpression
choice_of maps_name.Sum (class.Sign sign.Plus) = rule.Map maps_rule.PlusTerm
choice_of maps_name.Sum (class.Sign sign.Minus) = rule.Map maps_rule.MinusTerm
choice_of maps_name.Sum _ = rule.Map maps_rule.NoMoreTerms
choice_of maps_name.Term _ = rule.Map maps_rule.WholeTerm
choice_of maps_name.Product (class.Sign sign.Star) = rule.Map maps_rule.TimesFactor
choice_of maps_name.Product (class.Word key.Division) = rule.Map maps_rule.DivisionFactor
choice_of maps_name.Product _ = rule.Map maps_rule.NoMoreFactors
choice_of maps_name.Factor class.Zero = rule.Map maps_rule.NumberFactor
choice_of maps_name.Factor class.Positive = rule.Map maps_rule.NumberFactor
choice_of maps_name.Factor (class.Sign sign.Minus) = rule.Map maps_rule.MinusFactor
choice_of maps_name.Factor _ = rule.Map maps_rule.PlainFactor
choice_of maps_name.Negated class.Zero = rule.Map maps_rule.NegativeNumber
choice_of maps_name.Negated class.Positive = rule.Map maps_rule.NegativeNumber
choice_of maps_name.Negated _ = rule.Map maps_rule.NegatedBase
choice_of maps_name.Base (class.Word key.Division) = rule.Map maps_rule.DivisionName
choice_of maps_name.Base (class.Sign sign.OpenRound) = rule.Map maps_rule.InBrackets
choice_of maps_name.Base _ = rule.Map maps_rule.ParameterName
