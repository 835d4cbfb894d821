-- The rows of operations in regions: the symbols of each, and the name that it is a row of.
use Rattle.std.specs.Prelude.{List, [], ◌∷◌}
use Rattle.av_tree.specs.declared.table.Symbol.{Symbol}
use Rattle.av_tree.specs.declared.table.Symbol.TheVariants as symbol
use Rattle.av_tree.specs.declared.table.Name.{Name}
use Rattle.av_tree.specs.declared.table.Name.TheVariants as name
use Rattle.av_tree.specs.declared.table.regions.RegionRule.{RegionRule}
use Rattle.av_tree.specs.declared.table.regions.RegionRule.TheVariants as regions_rule
use Rattle.av_tree.specs.declared.table.functions.FunctionName.TheVariants as functions_name
use Rattle.av_tree.specs.declared.table.regions.RegionName.TheVariants as regions_name
use Rattle.av_tree.specs.declared.table.types.TypeName.TheVariants as types_name
use Rattle.av_tree.specs.declared.table.values.ValueName.TheVariants as values_name
use Rattle.av_lex.specs.declared.token.Sign.TheVariants as sign
use Rattle.av_tree.specs.declared.class.Keyword.TheVariants as key
use Rattle.av_tree.specs.declared.table.Test.TheVariants as test
use Rattle.av_tree.specs.declared.class.Class.{Class}
use Rattle.av_tree.specs.declared.class.Class.TheVariants as class
use Rattle.av_tree.specs.declared.table.Rule.{Rule}
use Rattle.av_tree.specs.declared.table.Rule.TheVariants as rule
use Rattle.av_tree.specs.declared.table.regions.RegionName.{RegionName}

abbrev pub symbols_of : RegionRule → List Symbol
symbols_of regions_rule.NoMoreOperations = []
symbols_of regions_rule.WithResults = (symbol.Rows (name.Value values_name.Results)) ∷ (symbol.Rows (name.Region regions_name.Operation)) ∷ []
symbols_of regions_rule.WithoutResults = (symbol.Rows (name.Region regions_name.Operation)) ∷ []
symbols_of regions_rule.PlainOperation = (symbol.Rows (name.Function functions_name.Form)) ∷ (symbol.Rows (name.Region regions_name.Operations)) ∷ []
symbols_of regions_rule.TerminatorOperation = (symbol.Token test.Terminator) ∷ (symbol.Rows (name.Region regions_name.AfterTerminator)) ∷ []
symbols_of regions_rule.TerminatorWithValues = (symbol.Rows (name.Region regions_name.TypedValues)) ∷ (symbol.Rows (name.Region regions_name.Operations)) ∷ []
symbols_of regions_rule.TerminatorLast = []
symbols_of regions_rule.TerminatorThenOperation = (symbol.Rows (name.Region regions_name.Operation)) ∷ []
symbols_of regions_rule.ValuesAndTypes = (symbol.Rows (name.Value values_name.Value)) ∷ (symbol.Rows (name.Value values_name.MoreValues)) ∷ (symbol.Sign sign.Colon) ∷ (symbol.Rows (name.Type types_name.Type)) ∷ (symbol.Rows (name.Type types_name.MoreTypes)) ∷ []
symbols_of regions_rule.NamedRegion = (symbol.Sign sign.OpenCurly) ∷ (symbol.Rows (name.Region regions_name.Operations)) ∷ (symbol.Sign sign.CloseCurly) ∷ []

abbrev pub name_of : RegionRule → Name
name_of regions_rule.NoMoreOperations = name.Region regions_name.Operations
name_of regions_rule.WithResults = name.Region regions_name.Operations
name_of regions_rule.WithoutResults = name.Region regions_name.Operations
name_of regions_rule.PlainOperation = name.Region regions_name.Operation
name_of regions_rule.TerminatorOperation = name.Region regions_name.Operation
name_of regions_rule.TerminatorWithValues = name.Region regions_name.AfterTerminator
name_of regions_rule.TerminatorLast = name.Region regions_name.AfterTerminator
name_of regions_rule.TerminatorThenOperation = name.Region regions_name.AfterTerminator
name_of regions_rule.ValuesAndTypes = name.Region regions_name.TypedValues
name_of regions_rule.NamedRegion = name.Region regions_name.Region

-- the row of a name that can begin with a token of this class, or any of its rows where none can
abbrev pub choice_of : RegionName → Class → Rule
choice_of regions_name.Operations (class.Sign sign.CloseCurly) = rule.Region regions_rule.NoMoreOperations
choice_of regions_name.Operations class.ValId = rule.Region regions_rule.WithResults
choice_of regions_name.Operations _ = rule.Region regions_rule.WithoutResults
choice_of regions_name.Operation (class.Word key.Terminator) = rule.Region regions_rule.TerminatorOperation
choice_of regions_name.Operation _ = rule.Region regions_rule.PlainOperation
choice_of regions_name.AfterTerminator class.ValId = rule.Region regions_rule.TerminatorWithValues
choice_of regions_name.AfterTerminator (class.Sign sign.CloseCurly) = rule.Region regions_rule.TerminatorLast
choice_of regions_name.AfterTerminator _ = rule.Region regions_rule.TerminatorThenOperation
choice_of regions_name.TypedValues _ = rule.Region regions_rule.ValuesAndTypes
choice_of regions_name.Region _ = rule.Region regions_rule.NamedRegion
