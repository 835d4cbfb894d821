-- The rows of operations of the Affine dialect: the symbols of each, and the name that it is a row of.
use Rattle.std.specs.Prelude.{List, [], ◌∷◌}
use Rattle.av_tree.specs.declared.table.Symbol.{Symbol}
use Rattle.av_tree.specs.declared.table.Symbol.TheVariants as symbol
use Rattle.av_tree.specs.declared.table.Name.{Name}
use Rattle.av_tree.specs.declared.table.Name.TheVariants as name
use Rattle.av_tree.specs.declared.table.affine.AffineRule.{AffineRule}
use Rattle.av_tree.specs.declared.table.affine.AffineRule.TheVariants as affine_rule
use Rattle.av_tree.specs.declared.table.regions.RegionName.TheVariants as regions_name
use Rattle.av_tree.specs.declared.table.types.TypeName.TheVariants as types_name
use Rattle.av_tree.specs.declared.table.maps.MapName.TheVariants as maps_name
use Rattle.av_tree.specs.declared.table.values.ValueName.TheVariants as values_name
use Rattle.av_tree.specs.declared.table.affine.AffineName.TheVariants as affine_name
use Rattle.av_lex.specs.declared.token.Sign.TheVariants as sign
use Rattle.av_tree.specs.declared.class.Keyword.TheVariants as key
use Rattle.av_tree.specs.declared.table.Test.TheVariants as test
use Rattle.av_tree.specs.declared.class.Class.{Class}
use Rattle.av_tree.specs.declared.class.Class.TheVariants as class
use Rattle.av_tree.specs.declared.table.Rule.{Rule}
use Rattle.av_tree.specs.declared.table.Rule.TheVariants as rule
use Rattle.av_tree.specs.declared.table.affine.AffineName.{AffineName}

abbrev pub symbols_of : AffineRule → List Symbol
symbols_of affine_rule.GreatestOf = (symbol.Word key.Max) ∷ (symbol.Rows (name.Affine affine_name.MapUse)) ∷ []
symbols_of affine_rule.PlainLowerBound = (symbol.Rows (name.Affine affine_name.Bound)) ∷ []
symbols_of affine_rule.LeastOf = (symbol.Word key.Min) ∷ (symbol.Rows (name.Affine affine_name.MapUse)) ∷ []
symbols_of affine_rule.PlainUpperBound = (symbol.Rows (name.Affine affine_name.Bound)) ∷ []
symbols_of affine_rule.NumberBound = (symbol.Rows (name.Value values_name.Integer)) ∷ []
symbols_of affine_rule.ValueBound = (symbol.Rows (name.Value values_name.Value)) ∷ []
symbols_of affine_rule.MapBound = (symbol.Rows (name.Affine affine_name.MapUse)) ∷ []
symbols_of affine_rule.NoStep = []
symbols_of affine_rule.WrittenStep = (symbol.Word key.Step) ∷ (symbol.Token test.Number) ∷ []
symbols_of affine_rule.NoIterArgs = []
symbols_of affine_rule.WrittenIterArgs = (symbol.Word key.IterArgs) ∷ (symbol.Sign sign.OpenRound) ∷ (symbol.Rows (name.Affine affine_name.Carried)) ∷ (symbol.Sign sign.CloseRound) ∷ []
symbols_of affine_rule.NoCarried = (symbol.Sign sign.CloseRound) ∷ (symbol.Sign sign.Arrow) ∷ (symbol.Sign sign.OpenRound) ∷ []
symbols_of affine_rule.FirstCarried = (symbol.Token test.ValId) ∷ (symbol.Sign sign.Equal) ∷ (symbol.Rows (name.Value values_name.Value)) ∷ (symbol.Rows (name.Affine affine_name.MoreCarried)) ∷ (symbol.Rows (name.Type types_name.Type)) ∷ []
symbols_of affine_rule.NoMoreCarried = (symbol.Sign sign.CloseRound) ∷ (symbol.Sign sign.Arrow) ∷ (symbol.Sign sign.OpenRound) ∷ []
symbols_of affine_rule.NextCarried = (symbol.Sign sign.Comma) ∷ (symbol.Token test.ValId) ∷ (symbol.Sign sign.Equal) ∷ (symbol.Rows (name.Value values_name.Value)) ∷ (symbol.Rows (name.Affine affine_name.MoreCarried)) ∷ (symbol.Rows (name.Type types_name.Type)) ∷ (symbol.Sign sign.Comma) ∷ []
symbols_of affine_rule.MapWritten = (symbol.Rows (name.Map maps_name.AffineMap)) ∷ (symbol.Rows (name.Affine affine_name.MapOperands)) ∷ []
symbols_of affine_rule.MapByAlias = (symbol.Token test.HashId) ∷ (symbol.Rows (name.Affine affine_name.MapOperands)) ∷ []
symbols_of affine_rule.SetWritten = (symbol.Rows (name.Map maps_name.AffineSet)) ∷ (symbol.Rows (name.Affine affine_name.MapOperands)) ∷ []
symbols_of affine_rule.SetByAlias = (symbol.Token test.HashId) ∷ (symbol.Rows (name.Affine affine_name.MapOperands)) ∷ []
symbols_of affine_rule.DimensionOperands = (symbol.Sign sign.OpenRound) ∷ (symbol.Rows (name.Value values_name.Values)) ∷ (symbol.Sign sign.CloseRound) ∷ (symbol.Rows (name.Affine affine_name.SymbolOperands)) ∷ []
symbols_of affine_rule.NoSymbolOperands = []
symbols_of affine_rule.WrittenSymbolOperands = (symbol.Sign sign.OpenSquare) ∷ (symbol.Rows (name.Value values_name.Values)) ∷ (symbol.Sign sign.CloseSquare) ∷ []
symbols_of affine_rule.NoElse = []
symbols_of affine_rule.WrittenElse = (symbol.Word key.Else) ∷ (symbol.Rows (name.Region regions_name.Region)) ∷ []

abbrev pub name_of : AffineRule → Name
name_of affine_rule.GreatestOf = name.Affine affine_name.LowerBound
name_of affine_rule.PlainLowerBound = name.Affine affine_name.LowerBound
name_of affine_rule.LeastOf = name.Affine affine_name.UpperBound
name_of affine_rule.PlainUpperBound = name.Affine affine_name.UpperBound
name_of affine_rule.NumberBound = name.Affine affine_name.Bound
name_of affine_rule.ValueBound = name.Affine affine_name.Bound
name_of affine_rule.MapBound = name.Affine affine_name.Bound
name_of affine_rule.NoStep = name.Affine affine_name.OptionalStep
name_of affine_rule.WrittenStep = name.Affine affine_name.OptionalStep
name_of affine_rule.NoIterArgs = name.Affine affine_name.OptionalIterArgs
name_of affine_rule.WrittenIterArgs = name.Affine affine_name.OptionalIterArgs
name_of affine_rule.NoCarried = name.Affine affine_name.Carried
name_of affine_rule.FirstCarried = name.Affine affine_name.Carried
name_of affine_rule.NoMoreCarried = name.Affine affine_name.MoreCarried
name_of affine_rule.NextCarried = name.Affine affine_name.MoreCarried
name_of affine_rule.MapWritten = name.Affine affine_name.MapUse
name_of affine_rule.MapByAlias = name.Affine affine_name.MapUse
name_of affine_rule.SetWritten = name.Affine affine_name.SetUse
name_of affine_rule.SetByAlias = name.Affine affine_name.SetUse
name_of affine_rule.DimensionOperands = name.Affine affine_name.MapOperands
name_of affine_rule.NoSymbolOperands = name.Affine affine_name.SymbolOperands
name_of affine_rule.WrittenSymbolOperands = name.Affine affine_name.SymbolOperands
name_of affine_rule.NoElse = name.Affine affine_name.OptionalElse
name_of affine_rule.WrittenElse = name.Affine affine_name.OptionalElse

-- the row of a name that can begin with a token of this class, or any of its rows where none can
abbrev pub choice_of : AffineName → Class → Rule
choice_of affine_name.LowerBound (class.Word key.Max) = rule.Affine affine_rule.GreatestOf
choice_of affine_name.LowerBound _ = rule.Affine affine_rule.PlainLowerBound
choice_of affine_name.UpperBound (class.Word key.Min) = rule.Affine affine_rule.LeastOf
choice_of affine_name.UpperBound _ = rule.Affine affine_rule.PlainUpperBound
choice_of affine_name.Bound (class.Sign sign.Minus) = rule.Affine affine_rule.NumberBound
choice_of affine_name.Bound class.Zero = rule.Affine affine_rule.NumberBound
choice_of affine_name.Bound class.Positive = rule.Affine affine_rule.NumberBound
choice_of affine_name.Bound class.ValId = rule.Affine affine_rule.ValueBound
choice_of affine_name.Bound _ = rule.Affine affine_rule.MapBound
choice_of affine_name.OptionalStep (class.Word key.Step) = rule.Affine affine_rule.WrittenStep
choice_of affine_name.OptionalStep _ = rule.Affine affine_rule.NoStep
choice_of affine_name.OptionalIterArgs (class.Word key.IterArgs) = rule.Affine affine_rule.WrittenIterArgs
choice_of affine_name.OptionalIterArgs _ = rule.Affine affine_rule.NoIterArgs
choice_of affine_name.Carried class.ValId = rule.Affine affine_rule.FirstCarried
choice_of affine_name.Carried _ = rule.Affine affine_rule.NoCarried
choice_of affine_name.MoreCarried (class.Sign sign.Comma) = rule.Affine affine_rule.NextCarried
choice_of affine_name.MoreCarried _ = rule.Affine affine_rule.NoMoreCarried
choice_of affine_name.MapUse (class.Word key.AffineMap) = rule.Affine affine_rule.MapWritten
choice_of affine_name.MapUse _ = rule.Affine affine_rule.MapByAlias
choice_of affine_name.SetUse (class.Word key.AffineSet) = rule.Affine affine_rule.SetWritten
choice_of affine_name.SetUse _ = rule.Affine affine_rule.SetByAlias
choice_of affine_name.MapOperands _ = rule.Affine affine_rule.DimensionOperands
choice_of affine_name.SymbolOperands (class.Sign sign.OpenSquare) = rule.Affine affine_rule.WrittenSymbolOperands
choice_of affine_name.SymbolOperands _ = rule.Affine affine_rule.NoSymbolOperands
choice_of affine_name.OptionalElse (class.Word key.Else) = rule.Affine affine_rule.WrittenElse
choice_of affine_name.OptionalElse _ = rule.Affine affine_rule.NoElse
