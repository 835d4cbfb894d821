-- The rows of generic forms: the symbols of each, and the name that it is a row of.
use Rattle.std.specs.Prelude.{List, [], ◌∷◌}
use Rattle.av_tree.specs.declared.table.Symbol.{Symbol}
use Rattle.av_tree.specs.declared.table.Symbol.TheVariants as symbol
use Rattle.av_tree.specs.declared.table.Name.{Name}
use Rattle.av_tree.specs.declared.table.Name.TheVariants as name
use Rattle.av_tree.specs.declared.table.generic.GenericRule.{GenericRule}
use Rattle.av_tree.specs.declared.table.generic.GenericRule.TheVariants as generic_rule
use Rattle.av_tree.specs.declared.table.functions.FunctionName.TheVariants as functions_name
use Rattle.av_tree.specs.declared.table.regions.RegionName.TheVariants as regions_name
use Rattle.av_tree.specs.declared.table.generic.GenericName.TheVariants as generic_name
use Rattle.av_tree.specs.declared.table.types.TypeName.TheVariants as types_name
use Rattle.av_tree.specs.declared.table.attributes.AttributeName.TheVariants as attributes_name
use Rattle.av_tree.specs.declared.table.values.ValueName.TheVariants as values_name
use Rattle.av_lex.specs.declared.token.Sign.TheVariants as sign
use Rattle.av_tree.specs.declared.table.Test.TheVariants as test
use Rattle.av_tree.specs.declared.class.Class.{Class}
use Rattle.av_tree.specs.declared.class.Class.TheVariants as class
use Rattle.av_tree.specs.declared.table.Rule.{Rule}
use Rattle.av_tree.specs.declared.table.Rule.TheVariants as rule
use Rattle.av_tree.specs.declared.table.generic.GenericName.{GenericName}

abbrev pub symbols_of : GenericRule → List Symbol
symbols_of generic_rule.GenericForm = (symbol.Token test.String) ∷ (symbol.Rows (name.Generic generic_name.GenericParts)) ∷ []
symbols_of generic_rule.WholeGeneric = (symbol.Sign sign.OpenRound) ∷ (symbol.Rows (name.Value values_name.Values)) ∷ (symbol.Sign sign.CloseRound) ∷ (symbol.Rows (name.Generic generic_name.Properties)) ∷ (symbol.Rows (name.Generic generic_name.Regions)) ∷ (symbol.Rows (name.Attribute attributes_name.OptionalDictionary)) ∷ (symbol.Sign sign.Colon) ∷ (symbol.Sign sign.OpenRound) ∷ (symbol.Rows (name.Type types_name.Types)) ∷ (symbol.Sign sign.CloseRound) ∷ (symbol.Sign sign.Arrow) ∷ (symbol.Rows (name.Type types_name.ResultTypes)) ∷ []
symbols_of generic_rule.NoProperties = []
symbols_of generic_rule.WrittenProperties = (symbol.Sign sign.OpenAngle) ∷ (symbol.Rows (name.Attribute attributes_name.Dictionary)) ∷ (symbol.Sign sign.CloseAngle) ∷ []
symbols_of generic_rule.NoRegions = []
symbols_of generic_rule.WrittenRegions = (symbol.Sign sign.OpenRound) ∷ (symbol.Rows (name.Generic generic_name.GenericRegion)) ∷ (symbol.Rows (name.Generic generic_name.MoreRegions)) ∷ (symbol.Sign sign.CloseRound) ∷ []
symbols_of generic_rule.NoMoreRegions = []
symbols_of generic_rule.NextRegion = (symbol.Sign sign.Comma) ∷ (symbol.Rows (name.Generic generic_name.GenericRegion)) ∷ (symbol.Rows (name.Generic generic_name.MoreRegions)) ∷ []
symbols_of generic_rule.LabelledRegion = (symbol.Sign sign.OpenCurly) ∷ (symbol.Rows (name.Generic generic_name.Label)) ∷ (symbol.Rows (name.Region regions_name.Operations)) ∷ (symbol.Sign sign.CloseCurly) ∷ []
symbols_of generic_rule.NoLabel = []
symbols_of generic_rule.BlockLabel = (symbol.Token test.CaretId) ∷ (symbol.Sign sign.OpenRound) ∷ (symbol.Rows (name.Generic generic_name.Arguments)) ∷ (symbol.Sign sign.CloseRound) ∷ (symbol.Sign sign.Colon) ∷ []
symbols_of generic_rule.NoArguments = []
symbols_of generic_rule.FirstArgument = (symbol.Token test.ValId) ∷ (symbol.Sign sign.Colon) ∷ (symbol.Rows (name.Type types_name.Type)) ∷ (symbol.Rows (name.Generic generic_name.MoreArguments)) ∷ []
symbols_of generic_rule.NoMoreArguments = []
symbols_of generic_rule.NextArgument = (symbol.Sign sign.Comma) ∷ (symbol.Token test.ValId) ∷ (symbol.Sign sign.Colon) ∷ (symbol.Rows (name.Type types_name.Type)) ∷ (symbol.Rows (name.Generic generic_name.MoreArguments)) ∷ []

abbrev pub name_of : GenericRule → Name
name_of generic_rule.GenericForm = name.Function functions_name.Form
name_of generic_rule.WholeGeneric = name.Generic generic_name.GenericParts
name_of generic_rule.NoProperties = name.Generic generic_name.Properties
name_of generic_rule.WrittenProperties = name.Generic generic_name.Properties
name_of generic_rule.NoRegions = name.Generic generic_name.Regions
name_of generic_rule.WrittenRegions = name.Generic generic_name.Regions
name_of generic_rule.NoMoreRegions = name.Generic generic_name.MoreRegions
name_of generic_rule.NextRegion = name.Generic generic_name.MoreRegions
name_of generic_rule.LabelledRegion = name.Generic generic_name.GenericRegion
name_of generic_rule.NoLabel = name.Generic generic_name.Label
name_of generic_rule.BlockLabel = name.Generic generic_name.Label
name_of generic_rule.NoArguments = name.Generic generic_name.Arguments
name_of generic_rule.FirstArgument = name.Generic generic_name.Arguments
name_of generic_rule.NoMoreArguments = name.Generic generic_name.MoreArguments
name_of generic_rule.NextArgument = name.Generic generic_name.MoreArguments

-- the row of a name that can begin with a token of this class, or any of its rows where none can
abbrev pub choice_of : GenericName → Class → Rule
choice_of generic_name.GenericParts _ = rule.Generic generic_rule.WholeGeneric
choice_of generic_name.Properties (class.Sign sign.OpenAngle) = rule.Generic generic_rule.WrittenProperties
choice_of generic_name.Properties _ = rule.Generic generic_rule.NoProperties
choice_of generic_name.Regions (class.Sign sign.OpenRound) = rule.Generic generic_rule.WrittenRegions
choice_of generic_name.Regions _ = rule.Generic generic_rule.NoRegions
choice_of generic_name.MoreRegions (class.Sign sign.Comma) = rule.Generic generic_rule.NextRegion
choice_of generic_name.MoreRegions _ = rule.Generic generic_rule.NoMoreRegions
choice_of generic_name.GenericRegion _ = rule.Generic generic_rule.LabelledRegion
choice_of generic_name.Label class.CaretId = rule.Generic generic_rule.BlockLabel
choice_of generic_name.Label _ = rule.Generic generic_rule.NoLabel
choice_of generic_name.Arguments class.ValId = rule.Generic generic_rule.FirstArgument
choice_of generic_name.Arguments _ = rule.Generic generic_rule.NoArguments
choice_of generic_name.MoreArguments (class.Sign sign.Comma) = rule.Generic generic_rule.NextArgument
choice_of generic_name.MoreArguments _ = rule.Generic generic_rule.NoMoreArguments
