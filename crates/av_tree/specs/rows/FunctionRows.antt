-- The rows of modules and functions: the symbols of each, and the name that it is a row of.
use Rattle.std.specs.Prelude.{List, [], ◌∷◌}
use Rattle.av_tree.specs.declared.table.Symbol.{Symbol}
use Rattle.av_tree.specs.declared.table.Symbol.TheVariants as symbol
use Rattle.av_tree.specs.declared.table.Name.{Name}
use Rattle.av_tree.specs.declared.table.Name.TheVariants as name
use Rattle.av_tree.specs.declared.table.functions.FunctionRule.{FunctionRule}
use Rattle.av_tree.specs.declared.table.functions.FunctionRule.TheVariants as functions_rule
use Rattle.av_tree.specs.declared.table.functions.FunctionName.TheVariants as functions_name
use Rattle.av_tree.specs.declared.table.regions.RegionName.TheVariants as regions_name
use Rattle.av_tree.specs.declared.table.types.TypeName.TheVariants as types_name
use Rattle.av_tree.specs.declared.table.attributes.AttributeName.TheVariants as attributes_name
use Rattle.av_lex.specs.declared.token.Sign.TheVariants as sign
use Rattle.av_tree.specs.declared.class.Keyword.TheVariants as key
use Rattle.av_tree.specs.declared.table.Test.TheVariants as test
use Rattle.av_tree.specs.declared.class.Class.{Class}
use Rattle.av_tree.specs.declared.class.Class.TheVariants as class
use Rattle.av_tree.specs.declared.table.Rule.{Rule}
use Rattle.av_tree.specs.declared.table.Rule.TheVariants as rule
use Rattle.av_tree.specs.declared.table.functions.FunctionName.{FunctionName}
use Rattle.av_tree.specs.declared.table.generic.GenericRule.TheVariants as generic_rule

abbrev pub symbols_of : FunctionRule → List Symbol
symbols_of functions_rule.BuiltinModule = (symbol.Word key.Module) ∷ (symbol.Rows (name.Function functions_name.OptionalSymbol)) ∷ (symbol.Rows (name.Attribute attributes_name.OptionalAttributes)) ∷ (symbol.Rows (name.Region regions_name.Region)) ∷ []
symbols_of functions_rule.NoSymbol = []
symbols_of functions_rule.WrittenSymbol = (symbol.Token test.SymId) ∷ []
symbols_of functions_rule.FuncFunc = (symbol.Word key.FuncFunc) ∷ (symbol.Rows (name.Function functions_name.OptionalVisibility)) ∷ (symbol.Token test.SymId) ∷ (symbol.Sign sign.OpenRound) ∷ (symbol.Rows (name.Function functions_name.FunctionArguments)) ∷ (symbol.Sign sign.CloseRound) ∷ (symbol.Rows (name.Type types_name.OptionalResultTypes)) ∷ (symbol.Rows (name.Attribute attributes_name.OptionalAttributes)) ∷ (symbol.Rows (name.Region regions_name.Region)) ∷ []
symbols_of functions_rule.NoVisibility = []
symbols_of functions_rule.WrittenVisibility = (symbol.Token test.Visibility) ∷ []
symbols_of functions_rule.NoFunctionArguments = []
symbols_of functions_rule.FirstFunctionArgument = (symbol.Rows (name.Function functions_name.FunctionArgument)) ∷ (symbol.Rows (name.Function functions_name.MoreFunctionArguments)) ∷ []
symbols_of functions_rule.NoMoreFunctionArguments = []
symbols_of functions_rule.NextFunctionArgument = (symbol.Sign sign.Comma) ∷ (symbol.Rows (name.Function functions_name.FunctionArgument)) ∷ (symbol.Rows (name.Function functions_name.MoreFunctionArguments)) ∷ []
symbols_of functions_rule.ArgumentOfFunction = (symbol.Token test.ValId) ∷ (symbol.Sign sign.Colon) ∷ (symbol.Rows (name.Type types_name.Type)) ∷ (symbol.Rows (name.Attribute attributes_name.OptionalDictionary)) ∷ []
symbols_of functions_rule.ModuleForm = (symbol.Rows (name.Function functions_name.Module)) ∷ []
symbols_of functions_rule.FunctionForm = (symbol.Rows (name.Function functions_name.NamedFunction)) ∷ []

abbrev pub name_of : FunctionRule → Name
name_of functions_rule.BuiltinModule = name.Function functions_name.Module
name_of functions_rule.NoSymbol = name.Function functions_name.OptionalSymbol
name_of functions_rule.WrittenSymbol = name.Function functions_name.OptionalSymbol
name_of functions_rule.FuncFunc = name.Function functions_name.NamedFunction
name_of functions_rule.NoVisibility = name.Function functions_name.OptionalVisibility
name_of functions_rule.WrittenVisibility = name.Function functions_name.OptionalVisibility
name_of functions_rule.NoFunctionArguments = name.Function functions_name.FunctionArguments
name_of functions_rule.FirstFunctionArgument = name.Function functions_name.FunctionArguments
name_of functions_rule.NoMoreFunctionArguments = name.Function functions_name.MoreFunctionArguments
name_of functions_rule.NextFunctionArgument = name.Function functions_name.MoreFunctionArguments
name_of functions_rule.ArgumentOfFunction = name.Function functions_name.FunctionArgument
name_of functions_rule.ModuleForm = name.Function functions_name.Form
name_of functions_rule.FunctionForm = name.Function functions_name.Form

-- the row of a name that can begin with a token of this class, or any of its rows where none can
abbrev pub choice_of : FunctionName → Class → Rule
choice_of functions_name.Module _ = rule.Function functions_rule.BuiltinModule
choice_of functions_name.OptionalSymbol class.SymId = rule.Function functions_rule.WrittenSymbol
choice_of functions_name.OptionalSymbol _ = rule.Function functions_rule.NoSymbol
choice_of functions_name.NamedFunction _ = rule.Function functions_rule.FuncFunc
choice_of functions_name.OptionalVisibility (class.Word key.Visibility) = rule.Function functions_rule.WrittenVisibility
choice_of functions_name.OptionalVisibility _ = rule.Function functions_rule.NoVisibility
choice_of functions_name.FunctionArguments class.ValId = rule.Function functions_rule.FirstFunctionArgument
choice_of functions_name.FunctionArguments _ = rule.Function functions_rule.NoFunctionArguments
choice_of functions_name.MoreFunctionArguments (class.Sign sign.Comma) = rule.Function functions_rule.NextFunctionArgument
choice_of functions_name.MoreFunctionArguments _ = rule.Function functions_rule.NoMoreFunctionArguments
choice_of functions_name.FunctionArgument _ = rule.Function functions_rule.ArgumentOfFunction
choice_of functions_name.Form (class.Word key.Module) = rule.Function functions_rule.ModuleForm
choice_of functions_name.Form (class.Word key.FuncFunc) = rule.Function functions_rule.FunctionForm
choice_of functions_name.Form (class.Word (key.Operation n)) = rule.Operation n
choice_of functions_name.Form _ = rule.Generic generic_rule.GenericForm
