-- The rows of the subscripts of affine loads and stores: the symbols of each, and the name that it is a row of.
use Rattle.std.specs.Prelude.{List, [], ◌∷◌}
use Rattle.av_tree.specs.declared.table.Symbol.{Symbol}
use Rattle.av_tree.specs.declared.table.Symbol.TheVariants as symbol
use Rattle.av_tree.specs.declared.table.Name.{Name}
use Rattle.av_tree.specs.declared.table.Name.TheVariants as name
use Rattle.av_tree.specs.declared.table.subscripts.SubscriptRule.{SubscriptRule}
use Rattle.av_tree.specs.declared.table.subscripts.SubscriptRule.TheVariants as subscripts_rule
use Rattle.av_tree.specs.declared.table.values.ValueName.TheVariants as values_name
use Rattle.av_tree.specs.declared.table.subscripts.SubscriptName.TheVariants as subscripts_name
use Rattle.av_lex.specs.declared.token.Sign.TheVariants as sign
use Rattle.av_tree.specs.declared.class.Keyword.TheVariants as key
use Rattle.av_tree.specs.declared.table.Test.TheVariants as test
use Rattle.av_tree.specs.declared.class.Class.{Class}
use Rattle.av_tree.specs.declared.class.Class.TheVariants as class
use Rattle.av_tree.specs.declared.table.Rule.{Rule}
use Rattle.av_tree.specs.declared.table.Rule.TheVariants as rule
use Rattle.av_tree.specs.declared.table.subscripts.SubscriptName.{SubscriptName}

abbrev pub symbols_of : SubscriptRule → List Symbol
symbols_of subscripts_rule.NoSubscripts = []
symbols_of subscripts_rule.FirstSubscript = (symbol.Rows (name.Subscript subscripts_name.Subscript)) ∷ (symbol.Rows (name.Subscript subscripts_name.MoreSubscripts)) ∷ []
symbols_of subscripts_rule.NoMoreSubscripts = []
symbols_of subscripts_rule.NextSubscript = (symbol.Sign sign.Comma) ∷ (symbol.Rows (name.Subscript subscripts_name.Subscript)) ∷ (symbol.Rows (name.Subscript subscripts_name.MoreSubscripts)) ∷ []
symbols_of subscripts_rule.WholeSubscript = (symbol.Rows (name.Subscript subscripts_name.SubscriptTerm)) ∷ (symbol.Rows (name.Subscript subscripts_name.SubscriptSum)) ∷ []
symbols_of subscripts_rule.NoMoreSubscriptTerms = []
symbols_of subscripts_rule.PlusSubscriptTerm = (symbol.Sign sign.Plus) ∷ (symbol.Rows (name.Subscript subscripts_name.SubscriptTerm)) ∷ (symbol.Rows (name.Subscript subscripts_name.SubscriptSum)) ∷ []
symbols_of subscripts_rule.MinusSubscriptTerm = (symbol.Sign sign.Minus) ∷ (symbol.Rows (name.Subscript subscripts_name.SubscriptTerm)) ∷ (symbol.Rows (name.Subscript subscripts_name.SubscriptSum)) ∷ []
symbols_of subscripts_rule.WholeSubscriptTerm = (symbol.Rows (name.Subscript subscripts_name.SubscriptFactor)) ∷ (symbol.Rows (name.Subscript subscripts_name.SubscriptProduct)) ∷ []
symbols_of subscripts_rule.NoMoreSubscriptFactors = []
symbols_of subscripts_rule.TimesSubscriptFactor = (symbol.Sign sign.Star) ∷ (symbol.Rows (name.Subscript subscripts_name.SubscriptFactor)) ∷ (symbol.Rows (name.Subscript subscripts_name.SubscriptProduct)) ∷ []
symbols_of subscripts_rule.DivisionSubscriptFactor = (symbol.Token test.Division) ∷ (symbol.Rows (name.Subscript subscripts_name.SubscriptFactor)) ∷ (symbol.Rows (name.Subscript subscripts_name.SubscriptProduct)) ∷ []
symbols_of subscripts_rule.NumberSubscriptFactor = (symbol.Token test.Number) ∷ []
symbols_of subscripts_rule.PlainSubscriptFactor = (symbol.Rows (name.Subscript subscripts_name.SubscriptBase)) ∷ []
symbols_of subscripts_rule.MinusSubscriptFactor = (symbol.Sign sign.Minus) ∷ (symbol.Rows (name.Subscript subscripts_name.NegatedSubscript)) ∷ []
symbols_of subscripts_rule.NegativeSubscriptNumber = (symbol.Token test.Number) ∷ []
symbols_of subscripts_rule.NegatedSubscriptBase = (symbol.Rows (name.Subscript subscripts_name.SubscriptBase)) ∷ []
symbols_of subscripts_rule.DimensionValue = (symbol.Rows (name.Value values_name.Value)) ∷ []
symbols_of subscripts_rule.SymbolValue = (symbol.Word key.Symbol) ∷ (symbol.Sign sign.OpenRound) ∷ (symbol.Rows (name.Value values_name.Value)) ∷ (symbol.Sign sign.CloseRound) ∷ []
symbols_of subscripts_rule.SubscriptInBrackets = (symbol.Sign sign.OpenRound) ∷ (symbol.Rows (name.Subscript subscripts_name.SubscriptTerm)) ∷ (symbol.Rows (name.Subscript subscripts_name.SubscriptSum)) ∷ (symbol.Sign sign.CloseRound) ∷ []

abbrev pub name_of : SubscriptRule → Name
name_of subscripts_rule.NoSubscripts = name.Subscript subscripts_name.Subscripts
name_of subscripts_rule.FirstSubscript = name.Subscript subscripts_name.Subscripts
name_of subscripts_rule.NoMoreSubscripts = name.Subscript subscripts_name.MoreSubscripts
name_of subscripts_rule.NextSubscript = name.Subscript subscripts_name.MoreSubscripts
name_of subscripts_rule.WholeSubscript = name.Subscript subscripts_name.Subscript
name_of subscripts_rule.NoMoreSubscriptTerms = name.Subscript subscripts_name.SubscriptSum
name_of subscripts_rule.PlusSubscriptTerm = name.Subscript subscripts_name.SubscriptSum
name_of subscripts_rule.MinusSubscriptTerm = name.Subscript subscripts_name.SubscriptSum
name_of subscripts_rule.WholeSubscriptTerm = name.Subscript subscripts_name.SubscriptTerm
name_of subscripts_rule.NoMoreSubscriptFactors = name.Subscript subscripts_name.SubscriptProduct
name_of subscripts_rule.TimesSubscriptFactor = name.Subscript subscripts_name.SubscriptProduct
name_of subscripts_rule.DivisionSubscriptFactor = name.Subscript subscripts_name.SubscriptProduct
name_of subscripts_rule.NumberSubscriptFactor = name.Subscript subscripts_name.SubscriptFactor
name_of subscripts_rule.PlainSubscriptFactor = name.Subscript subscripts_name.SubscriptFactor
name_of subscripts_rule.MinusSubscriptFactor = name.Subscript subscripts_name.SubscriptFactor
name_of subscripts_rule.NegativeSubscriptNumber = name.Subscript subscripts_name.NegatedSubscript
name_of subscripts_rule.NegatedSubscriptBase = name.Subscript subscripts_name.NegatedSubscript
name_of subscripts_rule.DimensionValue = name.Subscript subscripts_name.SubscriptBase
name_of subscripts_rule.SymbolValue = name.Subscript subscripts_name.SubscriptBase
name_of subscripts_rule.SubscriptInBrackets = name.Subscript subscripts_name.SubscriptBase

-- the row of a name that can begin with a token of this class, or any of its rows where none can
abbrev pub choice_of : SubscriptName → Class → Rule
choice_of subscripts_name.Subscripts (class.Sign sign.CloseSquare) = rule.Subscript subscripts_rule.NoSubscripts
choice_of subscripts_name.Subscripts _ = rule.Subscript subscripts_rule.FirstSubscript
choice_of subscripts_name.MoreSubscripts (class.Sign sign.Comma) = rule.Subscript subscripts_rule.NextSubscript
choice_of subscripts_name.MoreSubscripts _ = rule.Subscript subscripts_rule.NoMoreSubscripts
choice_of subscripts_name.Subscript _ = rule.Subscript subscripts_rule.WholeSubscript
choice_of subscripts_name.SubscriptSum (class.Sign sign.Plus) = rule.Subscript subscripts_rule.PlusSubscriptTerm
choice_of subscripts_name.SubscriptSum (class.Sign sign.Minus) = rule.Subscript subscripts_rule.MinusSubscriptTerm
choice_of subscripts_name.SubscriptSum _ = rule.Subscript subscripts_rule.NoMoreSubscriptTerms
choice_of subscripts_name.SubscriptTerm _ = rule.Subscript subscripts_rule.WholeSubscriptTerm
choice_of subscripts_name.SubscriptProduct (class.Sign sign.Star) = rule.Subscript subscripts_rule.TimesSubscriptFactor
choice_of subscripts_name.SubscriptProduct (class.Word key.Division) = rule.Subscript subscripts_rule.DivisionSubscriptFactor
choice_of subscripts_name.SubscriptProduct _ = rule.Subscript subscripts_rule.NoMoreSubscriptFactors
choice_of subscripts_name.SubscriptFactor class.Zero = rule.Subscript subscripts_rule.NumberSubscriptFactor
choice_of subscripts_name.SubscriptFactor class.Positive = rule.Subscript subscripts_rule.NumberSubscriptFactor
choice_of subscripts_name.SubscriptFactor (class.Sign sign.Minus) = rule.Subscript subscripts_rule.MinusSubscriptFactor
choice_of subscripts_name.SubscriptFactor _ = rule.Subscript subscripts_rule.PlainSubscriptFactor
choice_of subscripts_name.NegatedSubscript class.Zero = rule.Subscript subscripts_rule.NegativeSubscriptNumber
choice_of subscripts_name.NegatedSubscript class.Positive = rule.Subscript subscripts_rule.NegativeSubscriptNumber
choice_of subscripts_name.NegatedSubscript _ = rule.Subscript subscripts_rule.NegatedSubscriptBase
choice_of subscripts_name.SubscriptBase (class.Word key.Symbol) = rule.Subscript subscripts_rule.SymbolValue
choice_of subscripts_name.SubscriptBase (class.Sign sign.OpenRound) = rule.Subscript subscripts_rule.SubscriptInBrackets
choice_of subscripts_name.SubscriptBase _ = rule.Subscript subscripts_rule.DimensionValue
