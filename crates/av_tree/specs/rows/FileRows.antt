-- The rows of files: the symbols of each, and the name that it is a row of.
use Rattle.std.specs.Prelude.{List, [], ◌∷◌}
use Rattle.av_tree.specs.declared.table.Symbol.{Symbol}
use Rattle.av_tree.specs.declared.table.Symbol.TheVariants as symbol
use Rattle.av_tree.specs.declared.table.Name.{Name}
use Rattle.av_tree.specs.declared.table.Name.TheVariants as name
use Rattle.av_tree.specs.declared.table.file.FileRule.{FileRule}
use Rattle.av_tree.specs.declared.table.file.FileRule.TheVariants as file_rule
use Rattle.av_tree.specs.declared.table.file.FileName.TheVariants as file_name
use Rattle.av_tree.specs.declared.table.functions.FunctionName.TheVariants as functions_name
use Rattle.av_tree.specs.declared.table.generic.GenericName.TheVariants as generic_name
use Rattle.av_tree.specs.declared.table.maps.MapName.TheVariants as maps_name
use Rattle.av_tree.specs.declared.table.values.ValueName.TheVariants as values_name
use Rattle.av_lex.specs.declared.token.Sign.TheVariants as sign
use Rattle.av_tree.specs.declared.class.Keyword.TheVariants as key
use Rattle.av_tree.specs.declared.table.Test.TheVariants as test
use Rattle.av_tree.specs.declared.class.Class.{Class}
use Rattle.av_tree.specs.declared.class.Class.TheVariants as class
use Rattle.av_tree.specs.declared.table.Rule.{Rule}
use Rattle.av_tree.specs.declared.table.Rule.TheVariants as rule
use Rattle.av_tree.specs.declared.table.file.FileName.{FileName}

abbrev pub symbols_of : FileRule → List Symbol
symbols_of file_rule.WholeFile = (symbol.Rows (name.File file_name.Aliases)) ∷ (symbol.Rows (name.File file_name.Content)) ∷ []
symbols_of file_rule.NoMoreAliases = []
symbols_of file_rule.NextAlias = (symbol.Token test.HashId) ∷ (symbol.Sign sign.Equal) ∷ (symbol.Rows (name.File file_name.MapOrSet)) ∷ (symbol.Rows (name.File file_name.Aliases)) ∷ []
symbols_of file_rule.AliasOfMap = (symbol.Rows (name.Map maps_name.AffineMap)) ∷ []
symbols_of file_rule.AliasOfSet = (symbol.Rows (name.Map maps_name.AffineSet)) ∷ []
symbols_of file_rule.NoContent = []
symbols_of file_rule.NamedContent = (symbol.Rows (name.Value values_name.Results)) ∷ (symbol.Rows (name.File file_name.TopLevel)) ∷ []
symbols_of file_rule.PlainContent = (symbol.Rows (name.File file_name.TopLevel)) ∷ []
symbols_of file_rule.OnlyModule = (symbol.Rows (name.Function functions_name.Module)) ∷ []
symbols_of file_rule.OnlyGenericModule = (symbol.Token test.ModuleString) ∷ (symbol.Rows (name.Generic generic_name.GenericParts)) ∷ []
symbols_of file_rule.FirstFunction = (symbol.Rows (name.File file_name.Function)) ∷ (symbol.Rows (name.File file_name.MoreFunctions)) ∷ []
symbols_of file_rule.NoMoreFunctions = []
symbols_of file_rule.NextNamedFunction = (symbol.Rows (name.Value values_name.Results)) ∷ (symbol.Rows (name.File file_name.Function)) ∷ (symbol.Rows (name.File file_name.MoreFunctions)) ∷ []
symbols_of file_rule.NextFunction = (symbol.Rows (name.File file_name.Function)) ∷ (symbol.Rows (name.File file_name.MoreFunctions)) ∷ []
symbols_of file_rule.WrittenFunction = (symbol.Rows (name.Function functions_name.NamedFunction)) ∷ []
symbols_of file_rule.GenericFunction = (symbol.Token test.FuncString) ∷ (symbol.Rows (name.Generic generic_name.GenericParts)) ∷ []

abbrev pub name_of : FileRule → Name
name_of file_rule.WholeFile = name.File file_name.File
name_of file_rule.NoMoreAliases = name.File file_name.Aliases
name_of file_rule.NextAlias = name.File file_name.Aliases
name_of file_rule.AliasOfMap = name.File file_name.MapOrSet
name_of file_rule.AliasOfSet = name.File file_name.MapOrSet
name_of file_rule.NoContent = name.File file_name.Content
name_of file_rule.NamedContent = name.File file_name.Content
name_of file_rule.PlainContent = name.File file_name.Content
name_of file_rule.OnlyModule = name.File file_name.TopLevel
name_of file_rule.OnlyGenericModule = name.File file_name.TopLevel
name_of file_rule.FirstFunction = name.File file_name.TopLevel
name_of file_rule.NoMoreFunctions = name.File file_name.MoreFunctions
name_of file_rule.NextNamedFunction = name.File file_name.MoreFunctions
name_of file_rule.NextFunction = name.File file_name.MoreFunctions
name_of file_rule.WrittenFunction = name.File file_name.Function
name_of file_rule.GenericFunction = name.File file_name.Function

-- the row of a name that can begin with a token of this class, or any of its rows where none can
abbrev pub choice_of : FileName → Class → Rule
choice_of file_name.File _ = rule.File file_rule.WholeFile
choice_of file_name.Aliases class.HashDigits = rule.File file_rule.NextAlias
choice_of file_name.Aliases class.HashWord = rule.File file_rule.NextAlias
choice_of file_name.Aliases class.HashOther = rule.File file_rule.NextAlias
choice_of file_name.Aliases _ = rule.File file_rule.NoMoreAliases
choice_of file_name.MapOrSet (class.Word key.AffineSet) = rule.File file_rule.AliasOfSet
choice_of file_name.MapOrSet _ = rule.File file_rule.AliasOfMap
choice_of file_name.Content class.End = rule.File file_rule.NoContent
choice_of file_name.Content class.ValId = rule.File file_rule.NamedContent
choice_of file_name.Content _ = rule.File file_rule.PlainContent
choice_of file_name.TopLevel (class.Word key.Module) = rule.File file_rule.OnlyModule
choice_of file_name.TopLevel class.QuotedModule = rule.File file_rule.OnlyGenericModule
choice_of file_name.TopLevel _ = rule.File file_rule.FirstFunction
choice_of file_name.MoreFunctions class.End = rule.File file_rule.NoMoreFunctions
choice_of file_name.MoreFunctions class.ValId = rule.File file_rule.NextNamedFunction
choice_of file_name.MoreFunctions _ = rule.File file_rule.NextFunction
choice_of file_name.Function class.QuotedFunc = rule.File file_rule.GenericFunction
choice_of file_name.Function _ = rule.File file_rule.WrittenFunction
