-- For each name a row that ends soon, needs no bracket more than the name, and counts no sign: checked for each name.
use Rattle.std.proofs.Common.{◌≡◌, ℕ, suc, ◌+◌, ◌<◌, ◌≤◌, Bool, true, false, ◌&&◌, not, nat_le, nat_lt, IsTrue, List, [], ◌∷◌, Option, None, Some, codes, refl, arith}
use Rattle.std.proofs.lemmas.Bool.Decides.{nat_tests}
use Rattle.av_tree.specs.declared.table.Symbol.{Symbol}
use Rattle.av_tree.specs.declared.table.Symbol.TheVariants as symbol
use Rattle.av_tree.specs.declared.table.Name.{Name}
use Rattle.av_tree.specs.declared.table.Name.TheVariants as name
use Rattle.av_tree.specs.declared.table.Rule.{Rule}
use Rattle.av_tree.specs.declared.table.Rule.TheVariants as rule
use Rattle.av_tree.specs.declared.table.file.FileName.TheVariants as file_name
use Rattle.av_tree.specs.declared.table.functions.FunctionName.TheVariants as functions_name
use Rattle.av_tree.specs.declared.table.regions.RegionName.TheVariants as regions_name
use Rattle.av_tree.specs.declared.table.generic.GenericName.TheVariants as generic_name
use Rattle.av_tree.specs.declared.table.types.TypeName.TheVariants as types_name
use Rattle.av_tree.specs.declared.table.attributes.AttributeName.TheVariants as attributes_name
use Rattle.av_tree.specs.declared.table.maps.MapName.TheVariants as maps_name
use Rattle.av_tree.specs.declared.table.values.ValueName.TheVariants as values_name
use Rattle.av_tree.specs.declared.table.arith.ArithName.TheVariants as arith_name
use Rattle.av_tree.specs.declared.table.affine.AffineName.TheVariants as affine_name
use Rattle.av_tree.specs.declared.table.subscripts.SubscriptName.TheVariants as subscripts_name
use Rattle.av_tree.specs.declared.table.file.FileRule.TheVariants as file
use Rattle.av_tree.specs.declared.table.functions.FunctionRule.TheVariants as functions
use Rattle.av_tree.specs.declared.table.regions.RegionRule.TheVariants as regions
use Rattle.av_tree.specs.declared.table.generic.GenericRule.TheVariants as generic
use Rattle.av_tree.specs.declared.table.types.TypeRule.TheVariants as types
use Rattle.av_tree.specs.declared.table.attributes.AttributeRule.TheVariants as attributes
use Rattle.av_tree.specs.declared.table.maps.MapRule.TheVariants as maps
use Rattle.av_tree.specs.declared.table.values.ValueRule.TheVariants as values
use Rattle.av_tree.specs.declared.table.arith.ArithRule.TheVariants as arith
use Rattle.av_tree.specs.declared.table.affine.AffineRule.TheVariants as affine
use Rattle.av_tree.specs.declared.table.subscripts.SubscriptRule.TheVariants as subscripts
use Rattle.av_dialects.specs.Rows.{forms, names, number_of}
use Rattle.av_tree.specs.Table.{symbols_of, name_of}
use Rattle.av_tree.specs.Needs.{need_of}
use Rattle.av_tree.specs.Signs.{counts_sign}
use Rattle.av_tree.proofs.Choice.{both}
use Rattle.av_tree.proofs.Depth.{need_of_name}

abbrev number_or_none : Option ℕ → ℕ
number_or_none (Some n) = n
number_or_none None = 0

-- an operation that is written by its name alone
unfoldable pub an_operation_alone : ℕ
an_operation_alone = number_or_none (number_of (codes "vector.vscale"))

-- the row by which a name is derived in the fewest steps
unfoldable pub shortest_of : Name → Rule
shortest_of (name.File file_name.File) = rule.File file.WholeFile
shortest_of (name.File file_name.Aliases) = rule.File file.NoMoreAliases
shortest_of (name.File file_name.MapOrSet) = rule.File file.AliasOfMap
shortest_of (name.File file_name.Content) = rule.File file.NoContent
shortest_of (name.File file_name.TopLevel) = rule.File file.OnlyModule
shortest_of (name.File file_name.MoreFunctions) = rule.File file.NoMoreFunctions
shortest_of (name.File file_name.Function) = rule.File file.WrittenFunction
shortest_of (name.Function functions_name.Module) = rule.Function functions.BuiltinModule
shortest_of (name.Function functions_name.OptionalSymbol) = rule.Function functions.NoSymbol
shortest_of (name.Function functions_name.NamedFunction) = rule.Function functions.FuncFunc
shortest_of (name.Function functions_name.OptionalVisibility) = rule.Function functions.NoVisibility
shortest_of (name.Function functions_name.FunctionArguments) = rule.Function functions.NoFunctionArguments
shortest_of (name.Function functions_name.MoreFunctionArguments) = rule.Function functions.NoMoreFunctionArguments
shortest_of (name.Function functions_name.FunctionArgument) = rule.Function functions.ArgumentOfFunction
shortest_of (name.Function functions_name.Form) = rule.Operation an_operation_alone
shortest_of (name.Region regions_name.Operations) = rule.Region regions.NoMoreOperations
shortest_of (name.Region regions_name.Operation) = rule.Region regions.TerminatorOperation
shortest_of (name.Region regions_name.AfterTerminator) = rule.Region regions.TerminatorLast
shortest_of (name.Region regions_name.TypedValues) = rule.Region regions.ValuesAndTypes
shortest_of (name.Region regions_name.Region) = rule.Region regions.NamedRegion
shortest_of (name.Generic generic_name.GenericParts) = rule.Generic generic.WholeGeneric
shortest_of (name.Generic generic_name.Properties) = rule.Generic generic.NoProperties
shortest_of (name.Generic generic_name.Regions) = rule.Generic generic.NoRegions
shortest_of (name.Generic generic_name.MoreRegions) = rule.Generic generic.NoMoreRegions
shortest_of (name.Generic generic_name.GenericRegion) = rule.Generic generic.LabelledRegion
shortest_of (name.Generic generic_name.Label) = rule.Generic generic.NoLabel
shortest_of (name.Generic generic_name.Arguments) = rule.Generic generic.NoArguments
shortest_of (name.Generic generic_name.MoreArguments) = rule.Generic generic.NoMoreArguments
shortest_of (name.Type types_name.Type) = rule.Type types.ScalarType
shortest_of (name.Type types_name.MemRef) = rule.Type types.MemRefType
shortest_of (name.Type types_name.Sizes) = rule.Type types.NoMoreSizes
shortest_of (name.Type types_name.Vector) = rule.Type types.VectorType
shortest_of (name.Type types_name.Dims) = rule.Type types.NoMoreDims
shortest_of (name.Type types_name.Types) = rule.Type types.NoTypes
shortest_of (name.Type types_name.MoreTypes) = rule.Type types.NoMoreTypes
shortest_of (name.Type types_name.ResultTypes) = rule.Type types.OneResultType
shortest_of (name.Type types_name.OptionalResultTypes) = rule.Type types.NoResultTypes
shortest_of (name.Type types_name.Layout) = rule.Type types.NoLayout
shortest_of (name.Type types_name.Strides) = rule.Type types.NoStrides
shortest_of (name.Type types_name.MoreStrides) = rule.Type types.NoMoreStrides
shortest_of (name.Type types_name.Stride) = rule.Type types.StaticStride
shortest_of (name.Type types_name.OptionalOffset) = rule.Type types.NoOffset
shortest_of (name.Attribute attributes_name.Attribute) = rule.Attribute attributes.BoolAttribute
shortest_of (name.Attribute attributes_name.NumberType) = rule.Attribute attributes.NoNumberType
shortest_of (name.Attribute attributes_name.HashWords) = rule.Attribute attributes.NoHashWords
shortest_of (name.Attribute attributes_name.Attributes) = rule.Attribute attributes.NoAttributes
shortest_of (name.Attribute attributes_name.MoreAttributes) = rule.Attribute attributes.NoMoreAttributes
shortest_of (name.Attribute attributes_name.ArrayNumbers) = rule.Attribute attributes.NoArrayNumbers
shortest_of (name.Attribute attributes_name.Dense) = rule.Attribute attributes.DenseElements
shortest_of (name.Attribute attributes_name.Element) = rule.Attribute attributes.BoolElement
shortest_of (name.Attribute attributes_name.Elements) = rule.Attribute attributes.NoElements
shortest_of (name.Attribute attributes_name.MoreElements) = rule.Attribute attributes.NoMoreElements
shortest_of (name.Attribute attributes_name.Dictionary) = rule.Attribute attributes.WrittenDictionary
shortest_of (name.Attribute attributes_name.Entries) = rule.Attribute attributes.NoEntries
shortest_of (name.Attribute attributes_name.MoreEntries) = rule.Attribute attributes.NoMoreEntries
shortest_of (name.Attribute attributes_name.Entry) = rule.Attribute attributes.PlainEntry
shortest_of (name.Attribute attributes_name.EntryValue) = rule.Attribute attributes.UnitEntry
shortest_of (name.Attribute attributes_name.FunctionTypeValue) = rule.Attribute attributes.UnitFunctionType
shortest_of (name.Attribute attributes_name.AttributeOrFunctionType) = rule.Attribute attributes.NoFunctionType
shortest_of (name.Attribute attributes_name.OptionalDictionary) = rule.Attribute attributes.NoDictionary
shortest_of (name.Attribute attributes_name.OptionalAttributes) = rule.Attribute attributes.NoAttributesPart
shortest_of (name.Map maps_name.AffineMap) = rule.Map maps.WrittenMap
shortest_of (name.Map maps_name.AffineSet) = rule.Map maps.WrittenSet
shortest_of (name.Map maps_name.Parameters) = rule.Map maps.DimensionNames
shortest_of (name.Map maps_name.SymbolNames) = rule.Map maps.NoSymbolNames
shortest_of (name.Map maps_name.Words) = rule.Map maps.NoWords
shortest_of (name.Map maps_name.MoreWords) = rule.Map maps.NoMoreWords
shortest_of (name.Map maps_name.Expressions) = rule.Map maps.NoExpressions
shortest_of (name.Map maps_name.MoreExpressions) = rule.Map maps.NoMoreExpressions
shortest_of (name.Map maps_name.SetRows) = rule.Map maps.NoSetRows
shortest_of (name.Map maps_name.MoreSetRows) = rule.Map maps.NoMoreSetRows
shortest_of (name.Map maps_name.SetRow) = rule.Map maps.RowOfSet
shortest_of (name.Map maps_name.RightSide) = rule.Map maps.AtLeastZero
shortest_of (name.Map maps_name.Expression) = rule.Map maps.WholeExpression
shortest_of (name.Map maps_name.Sum) = rule.Map maps.NoMoreTerms
shortest_of (name.Map maps_name.Term) = rule.Map maps.WholeTerm
shortest_of (name.Map maps_name.Product) = rule.Map maps.NoMoreFactors
shortest_of (name.Map maps_name.Factor) = rule.Map maps.NumberFactor
shortest_of (name.Map maps_name.Negated) = rule.Map maps.NegativeNumber
shortest_of (name.Map maps_name.Base) = rule.Map maps.ParameterName
shortest_of (name.Value values_name.Value) = rule.Value values.NamedValue
shortest_of (name.Value values_name.ResultNumber) = rule.Value values.NoResultNumber
shortest_of (name.Value values_name.Values) = rule.Value values.NoValues
shortest_of (name.Value values_name.MoreValues) = rule.Value values.NoMoreValues
shortest_of (name.Value values_name.OptionalValue) = rule.Value values.NoFurtherValue
shortest_of (name.Value values_name.Integer) = rule.Value values.PlainInteger
shortest_of (name.Value values_name.Integers) = rule.Value values.NoIntegers
shortest_of (name.Value values_name.MoreIntegers) = rule.Value values.NoMoreIntegers
shortest_of (name.Value values_name.Results) = rule.Value values.ResultNames
shortest_of (name.Value values_name.MoreResults) = rule.Value values.NoMoreResults
shortest_of (name.Value values_name.ResultCount) = rule.Value values.OneResult
shortest_of (name.Arith arith_name.Constant) = rule.Arith arith.BoolConstant
shortest_of (name.Arith arith_name.OptionalOverflow) = rule.Arith arith.NoOverflow
shortest_of (name.Arith arith_name.MoreOverflowFlags) = rule.Arith arith.NoMoreOverflowFlags
shortest_of (name.Arith arith_name.SelectedTypes) = rule.Arith arith.ScalarSelected
shortest_of (name.Arith arith_name.AfterVector) = rule.Arith arith.OnlySelected
shortest_of (name.Affine affine_name.LowerBound) = rule.Affine affine.PlainLowerBound
shortest_of (name.Affine affine_name.UpperBound) = rule.Affine affine.PlainUpperBound
shortest_of (name.Affine affine_name.Bound) = rule.Affine affine.NumberBound
shortest_of (name.Affine affine_name.OptionalStep) = rule.Affine affine.NoStep
shortest_of (name.Affine affine_name.OptionalIterArgs) = rule.Affine affine.NoIterArgs
shortest_of (name.Affine affine_name.Carried) = rule.Affine affine.NoCarried
shortest_of (name.Affine affine_name.MoreCarried) = rule.Affine affine.NoMoreCarried
shortest_of (name.Affine affine_name.MapUse) = rule.Affine affine.MapByAlias
shortest_of (name.Affine affine_name.SetUse) = rule.Affine affine.SetByAlias
shortest_of (name.Affine affine_name.MapOperands) = rule.Affine affine.DimensionOperands
shortest_of (name.Affine affine_name.SymbolOperands) = rule.Affine affine.NoSymbolOperands
shortest_of (name.Affine affine_name.OptionalElse) = rule.Affine affine.NoElse
shortest_of (name.Subscript subscripts_name.Subscripts) = rule.Subscript subscripts.NoSubscripts
shortest_of (name.Subscript subscripts_name.MoreSubscripts) = rule.Subscript subscripts.NoMoreSubscripts
shortest_of (name.Subscript subscripts_name.Subscript) = rule.Subscript subscripts.WholeSubscript
shortest_of (name.Subscript subscripts_name.SubscriptSum) = rule.Subscript subscripts.NoMoreSubscriptTerms
shortest_of (name.Subscript subscripts_name.SubscriptTerm) = rule.Subscript subscripts.WholeSubscriptTerm
shortest_of (name.Subscript subscripts_name.SubscriptProduct) = rule.Subscript subscripts.NoMoreSubscriptFactors
shortest_of (name.Subscript subscripts_name.SubscriptFactor) = rule.Subscript subscripts.NumberSubscriptFactor
shortest_of (name.Subscript subscripts_name.NegatedSubscript) = rule.Subscript subscripts.NegativeSubscriptNumber
shortest_of (name.Subscript subscripts_name.SubscriptBase) = rule.Subscript subscripts.DimensionValue

-- how many symbols are worked off where a name is derived by these rows
unfoldable pub steps_of : Name → ℕ
steps_of (name.File file_name.File) = 3
steps_of (name.File file_name.MapOrSet) = 14
steps_of (name.File file_name.TopLevel) = 9
steps_of (name.File file_name.Function) = 14
steps_of (name.Function functions_name.Module) = 8
steps_of (name.Function functions_name.NamedFunction) = 13
steps_of (name.Function functions_name.FunctionArgument) = 6
steps_of (name.Function functions_name.Form) = 2
steps_of (name.Region regions_name.Operation) = 3
steps_of (name.Region regions_name.TypedValues) = 9
steps_of (name.Region regions_name.Region) = 4
steps_of (name.Generic generic_name.GenericParts) = 15
steps_of (name.Generic generic_name.GenericRegion) = 5
steps_of (name.Type types_name.Type) = 2
steps_of (name.Type types_name.MemRef) = 7
steps_of (name.Type types_name.Vector) = 6
steps_of (name.Type types_name.ResultTypes) = 3
steps_of (name.Type types_name.Stride) = 2
steps_of (name.Attribute attributes_name.Attribute) = 2
steps_of (name.Attribute attributes_name.Dense) = 9
steps_of (name.Attribute attributes_name.Element) = 2
steps_of (name.Attribute attributes_name.Dictionary) = 4
steps_of (name.Attribute attributes_name.Entry) = 3
steps_of (name.Attribute attributes_name.AttributeOrFunctionType) = 3
steps_of (name.Map maps_name.AffineMap) = 13
steps_of (name.Map maps_name.AffineSet) = 13
steps_of (name.Map maps_name.Parameters) = 5
steps_of (name.Map maps_name.SetRow) = 10
steps_of (name.Map maps_name.RightSide) = 3
steps_of (name.Map maps_name.Expression) = 6
steps_of (name.Map maps_name.Term) = 4
steps_of (name.Map maps_name.Factor) = 2
steps_of (name.Map maps_name.Negated) = 2
steps_of (name.Map maps_name.Base) = 2
steps_of (name.Value values_name.Value) = 3
steps_of (name.Value values_name.Integer) = 2
steps_of (name.Value values_name.Results) = 5
steps_of (name.Arith arith_name.Constant) = 2
steps_of (name.Arith arith_name.SelectedTypes) = 2
steps_of (name.Affine affine_name.LowerBound) = 4
steps_of (name.Affine affine_name.UpperBound) = 4
steps_of (name.Affine affine_name.Bound) = 3
steps_of (name.Affine affine_name.Carried) = 4
steps_of (name.Affine affine_name.MoreCarried) = 4
steps_of (name.Affine affine_name.MapUse) = 7
steps_of (name.Affine affine_name.SetUse) = 7
steps_of (name.Affine affine_name.MapOperands) = 5
steps_of (name.Subscript subscripts_name.Subscript) = 6
steps_of (name.Subscript subscripts_name.SubscriptTerm) = 4
steps_of (name.Subscript subscripts_name.SubscriptFactor) = 2
steps_of (name.Subscript subscripts_name.NegatedSubscript) = 2
steps_of (name.Subscript subscripts_name.SubscriptBase) = 4
steps_of _ = 1

abbrev pub steps : List Symbol → ℕ
steps [] = 0
steps (symbol.Rows x ∷ rest) = steps_of x + steps rest
steps (_ ∷ rest) = suc (steps rest)

abbrev is_short : Name → Bool
is_short x = nat_lt (steps (symbols_of (shortest_of x))) (steps_of x) && (nat_le (need_of (shortest_of x)) (need_of_name x) && not (counts_sign (shortest_of x)))

short : (x : Name) → IsTrue (is_short x)
unfolding an_operation_alone forms names shortest_of steps_of
short (name.File file_name.File) = refl
short (name.File file_name.Aliases) = refl
short (name.File file_name.MapOrSet) = refl
short (name.File file_name.Content) = refl
short (name.File file_name.TopLevel) = refl
short (name.File file_name.MoreFunctions) = refl
short (name.File file_name.Function) = refl
short (name.Function functions_name.Module) = refl
short (name.Function functions_name.OptionalSymbol) = refl
short (name.Function functions_name.NamedFunction) = refl
short (name.Function functions_name.OptionalVisibility) = refl
short (name.Function functions_name.FunctionArguments) = refl
short (name.Function functions_name.MoreFunctionArguments) = refl
short (name.Function functions_name.FunctionArgument) = refl
short (name.Function functions_name.Form) = refl
short (name.Region regions_name.Operations) = refl
short (name.Region regions_name.Operation) = refl
short (name.Region regions_name.AfterTerminator) = refl
short (name.Region regions_name.TypedValues) = refl
short (name.Region regions_name.Region) = refl
short (name.Generic generic_name.GenericParts) = refl
short (name.Generic generic_name.Properties) = refl
short (name.Generic generic_name.Regions) = refl
short (name.Generic generic_name.MoreRegions) = refl
short (name.Generic generic_name.GenericRegion) = refl
short (name.Generic generic_name.Label) = refl
short (name.Generic generic_name.Arguments) = refl
short (name.Generic generic_name.MoreArguments) = refl
short (name.Type types_name.Type) = refl
short (name.Type types_name.MemRef) = refl
short (name.Type types_name.Sizes) = refl
short (name.Type types_name.Vector) = refl
short (name.Type types_name.Dims) = refl
short (name.Type types_name.Types) = refl
short (name.Type types_name.MoreTypes) = refl
short (name.Type types_name.ResultTypes) = refl
short (name.Type types_name.OptionalResultTypes) = refl
short (name.Type types_name.Layout) = refl
short (name.Type types_name.Strides) = refl
short (name.Type types_name.MoreStrides) = refl
short (name.Type types_name.Stride) = refl
short (name.Type types_name.OptionalOffset) = refl
short (name.Attribute attributes_name.Attribute) = refl
short (name.Attribute attributes_name.NumberType) = refl
short (name.Attribute attributes_name.HashWords) = refl
short (name.Attribute attributes_name.Attributes) = refl
short (name.Attribute attributes_name.MoreAttributes) = refl
short (name.Attribute attributes_name.ArrayNumbers) = refl
short (name.Attribute attributes_name.Dense) = refl
short (name.Attribute attributes_name.Element) = refl
short (name.Attribute attributes_name.Elements) = refl
short (name.Attribute attributes_name.MoreElements) = refl
short (name.Attribute attributes_name.Dictionary) = refl
short (name.Attribute attributes_name.Entries) = refl
short (name.Attribute attributes_name.MoreEntries) = refl
short (name.Attribute attributes_name.Entry) = refl
short (name.Attribute attributes_name.EntryValue) = refl
short (name.Attribute attributes_name.FunctionTypeValue) = refl
short (name.Attribute attributes_name.AttributeOrFunctionType) = refl
short (name.Attribute attributes_name.OptionalDictionary) = refl
short (name.Attribute attributes_name.OptionalAttributes) = refl
short (name.Map maps_name.AffineMap) = refl
short (name.Map maps_name.AffineSet) = refl
short (name.Map maps_name.Parameters) = refl
short (name.Map maps_name.SymbolNames) = refl
short (name.Map maps_name.Words) = refl
short (name.Map maps_name.MoreWords) = refl
short (name.Map maps_name.Expressions) = refl
short (name.Map maps_name.MoreExpressions) = refl
short (name.Map maps_name.SetRows) = refl
short (name.Map maps_name.MoreSetRows) = refl
short (name.Map maps_name.SetRow) = refl
short (name.Map maps_name.RightSide) = refl
short (name.Map maps_name.Expression) = refl
short (name.Map maps_name.Sum) = refl
short (name.Map maps_name.Term) = refl
short (name.Map maps_name.Product) = refl
short (name.Map maps_name.Factor) = refl
short (name.Map maps_name.Negated) = refl
short (name.Map maps_name.Base) = refl
short (name.Value values_name.Value) = refl
short (name.Value values_name.ResultNumber) = refl
short (name.Value values_name.Values) = refl
short (name.Value values_name.MoreValues) = refl
short (name.Value values_name.OptionalValue) = refl
short (name.Value values_name.Integer) = refl
short (name.Value values_name.Integers) = refl
short (name.Value values_name.MoreIntegers) = refl
short (name.Value values_name.Results) = refl
short (name.Value values_name.MoreResults) = refl
short (name.Value values_name.ResultCount) = refl
short (name.Arith arith_name.Constant) = refl
short (name.Arith arith_name.OptionalOverflow) = refl
short (name.Arith arith_name.MoreOverflowFlags) = refl
short (name.Arith arith_name.SelectedTypes) = refl
short (name.Arith arith_name.AfterVector) = refl
short (name.Affine affine_name.LowerBound) = refl
short (name.Affine affine_name.UpperBound) = refl
short (name.Affine affine_name.Bound) = refl
short (name.Affine affine_name.OptionalStep) = refl
short (name.Affine affine_name.OptionalIterArgs) = refl
short (name.Affine affine_name.Carried) = refl
short (name.Affine affine_name.MoreCarried) = refl
short (name.Affine affine_name.MapUse) = refl
short (name.Affine affine_name.SetUse) = refl
short (name.Affine affine_name.MapOperands) = refl
short (name.Affine affine_name.SymbolOperands) = refl
short (name.Affine affine_name.OptionalElse) = refl
short (name.Subscript subscripts_name.Subscripts) = refl
short (name.Subscript subscripts_name.MoreSubscripts) = refl
short (name.Subscript subscripts_name.Subscript) = refl
short (name.Subscript subscripts_name.SubscriptSum) = refl
short (name.Subscript subscripts_name.SubscriptTerm) = refl
short (name.Subscript subscripts_name.SubscriptProduct) = refl
short (name.Subscript subscripts_name.SubscriptFactor) = refl
short (name.Subscript subscripts_name.NegatedSubscript) = refl
short (name.Subscript subscripts_name.SubscriptBase) = refl

pub row-of-name : (x : Name) → name_of (shortest_of x) ≡ x
unfolding shortest_of
row-of-name (name.File file_name.File) = refl
row-of-name (name.File file_name.Aliases) = refl
row-of-name (name.File file_name.MapOrSet) = refl
row-of-name (name.File file_name.Content) = refl
row-of-name (name.File file_name.TopLevel) = refl
row-of-name (name.File file_name.MoreFunctions) = refl
row-of-name (name.File file_name.Function) = refl
row-of-name (name.Function functions_name.Module) = refl
row-of-name (name.Function functions_name.OptionalSymbol) = refl
row-of-name (name.Function functions_name.NamedFunction) = refl
row-of-name (name.Function functions_name.OptionalVisibility) = refl
row-of-name (name.Function functions_name.FunctionArguments) = refl
row-of-name (name.Function functions_name.MoreFunctionArguments) = refl
row-of-name (name.Function functions_name.FunctionArgument) = refl
row-of-name (name.Function functions_name.Form) = refl
row-of-name (name.Region regions_name.Operations) = refl
row-of-name (name.Region regions_name.Operation) = refl
row-of-name (name.Region regions_name.AfterTerminator) = refl
row-of-name (name.Region regions_name.TypedValues) = refl
row-of-name (name.Region regions_name.Region) = refl
row-of-name (name.Generic generic_name.GenericParts) = refl
row-of-name (name.Generic generic_name.Properties) = refl
row-of-name (name.Generic generic_name.Regions) = refl
row-of-name (name.Generic generic_name.MoreRegions) = refl
row-of-name (name.Generic generic_name.GenericRegion) = refl
row-of-name (name.Generic generic_name.Label) = refl
row-of-name (name.Generic generic_name.Arguments) = refl
row-of-name (name.Generic generic_name.MoreArguments) = refl
row-of-name (name.Type types_name.Type) = refl
row-of-name (name.Type types_name.MemRef) = refl
row-of-name (name.Type types_name.Sizes) = refl
row-of-name (name.Type types_name.Vector) = refl
row-of-name (name.Type types_name.Dims) = refl
row-of-name (name.Type types_name.Types) = refl
row-of-name (name.Type types_name.MoreTypes) = refl
row-of-name (name.Type types_name.ResultTypes) = refl
row-of-name (name.Type types_name.OptionalResultTypes) = refl
row-of-name (name.Type types_name.Layout) = refl
row-of-name (name.Type types_name.Strides) = refl
row-of-name (name.Type types_name.MoreStrides) = refl
row-of-name (name.Type types_name.Stride) = refl
row-of-name (name.Type types_name.OptionalOffset) = refl
row-of-name (name.Attribute attributes_name.Attribute) = refl
row-of-name (name.Attribute attributes_name.NumberType) = refl
row-of-name (name.Attribute attributes_name.HashWords) = refl
row-of-name (name.Attribute attributes_name.Attributes) = refl
row-of-name (name.Attribute attributes_name.MoreAttributes) = refl
row-of-name (name.Attribute attributes_name.ArrayNumbers) = refl
row-of-name (name.Attribute attributes_name.Dense) = refl
row-of-name (name.Attribute attributes_name.Element) = refl
row-of-name (name.Attribute attributes_name.Elements) = refl
row-of-name (name.Attribute attributes_name.MoreElements) = refl
row-of-name (name.Attribute attributes_name.Dictionary) = refl
row-of-name (name.Attribute attributes_name.Entries) = refl
row-of-name (name.Attribute attributes_name.MoreEntries) = refl
row-of-name (name.Attribute attributes_name.Entry) = refl
row-of-name (name.Attribute attributes_name.EntryValue) = refl
row-of-name (name.Attribute attributes_name.FunctionTypeValue) = refl
row-of-name (name.Attribute attributes_name.AttributeOrFunctionType) = refl
row-of-name (name.Attribute attributes_name.OptionalDictionary) = refl
row-of-name (name.Attribute attributes_name.OptionalAttributes) = refl
row-of-name (name.Map maps_name.AffineMap) = refl
row-of-name (name.Map maps_name.AffineSet) = refl
row-of-name (name.Map maps_name.Parameters) = refl
row-of-name (name.Map maps_name.SymbolNames) = refl
row-of-name (name.Map maps_name.Words) = refl
row-of-name (name.Map maps_name.MoreWords) = refl
row-of-name (name.Map maps_name.Expressions) = refl
row-of-name (name.Map maps_name.MoreExpressions) = refl
row-of-name (name.Map maps_name.SetRows) = refl
row-of-name (name.Map maps_name.MoreSetRows) = refl
row-of-name (name.Map maps_name.SetRow) = refl
row-of-name (name.Map maps_name.RightSide) = refl
row-of-name (name.Map maps_name.Expression) = refl
row-of-name (name.Map maps_name.Sum) = refl
row-of-name (name.Map maps_name.Term) = refl
row-of-name (name.Map maps_name.Product) = refl
row-of-name (name.Map maps_name.Factor) = refl
row-of-name (name.Map maps_name.Negated) = refl
row-of-name (name.Map maps_name.Base) = refl
row-of-name (name.Value values_name.Value) = refl
row-of-name (name.Value values_name.ResultNumber) = refl
row-of-name (name.Value values_name.Values) = refl
row-of-name (name.Value values_name.MoreValues) = refl
row-of-name (name.Value values_name.OptionalValue) = refl
row-of-name (name.Value values_name.Integer) = refl
row-of-name (name.Value values_name.Integers) = refl
row-of-name (name.Value values_name.MoreIntegers) = refl
row-of-name (name.Value values_name.Results) = refl
row-of-name (name.Value values_name.MoreResults) = refl
row-of-name (name.Value values_name.ResultCount) = refl
row-of-name (name.Arith arith_name.Constant) = refl
row-of-name (name.Arith arith_name.OptionalOverflow) = refl
row-of-name (name.Arith arith_name.MoreOverflowFlags) = refl
row-of-name (name.Arith arith_name.SelectedTypes) = refl
row-of-name (name.Arith arith_name.AfterVector) = refl
row-of-name (name.Affine affine_name.LowerBound) = refl
row-of-name (name.Affine affine_name.UpperBound) = refl
row-of-name (name.Affine affine_name.Bound) = refl
row-of-name (name.Affine affine_name.OptionalStep) = refl
row-of-name (name.Affine affine_name.OptionalIterArgs) = refl
row-of-name (name.Affine affine_name.Carried) = refl
row-of-name (name.Affine affine_name.MoreCarried) = refl
row-of-name (name.Affine affine_name.MapUse) = refl
row-of-name (name.Affine affine_name.SetUse) = refl
row-of-name (name.Affine affine_name.MapOperands) = refl
row-of-name (name.Affine affine_name.SymbolOperands) = refl
row-of-name (name.Affine affine_name.OptionalElse) = refl
row-of-name (name.Subscript subscripts_name.Subscripts) = refl
row-of-name (name.Subscript subscripts_name.MoreSubscripts) = refl
row-of-name (name.Subscript subscripts_name.Subscript) = refl
row-of-name (name.Subscript subscripts_name.SubscriptSum) = refl
row-of-name (name.Subscript subscripts_name.SubscriptTerm) = refl
row-of-name (name.Subscript subscripts_name.SubscriptProduct) = refl
row-of-name (name.Subscript subscripts_name.SubscriptFactor) = refl
row-of-name (name.Subscript subscripts_name.NegatedSubscript) = refl
row-of-name (name.Subscript subscripts_name.SubscriptBase) = refl

less : (a b : ℕ) → IsTrue (nat_lt a b) → a < b
less a b t = grind (arith, nat_tests)

at-most : (a b : ℕ) → IsTrue (nat_le a b) → a ≤ b
at-most a b t = grind (arith, nat_tests)

pub fewer-steps : (x : Name) → steps (symbols_of (shortest_of x)) < steps_of x
fewer-steps x = less _ _ (both _ _ (short x)).0

pub no-more-brackets : (x : Name) → need_of (shortest_of x) ≤ need_of_name x
no-more-brackets x = at-most _ _ (both _ _ (both _ _ (short x)).1).0

uncounted : (b : Bool) → IsTrue (not b) → b ≡ false
uncounted true t = absurd (cc)
uncounted false t = refl

pub no-sign : (x : Name) → counts_sign (shortest_of x) ≡ false
no-sign x = uncounted _ (both _ _ (both _ _ (short x)).1).1
