-- The brackets that a row needs are those that its symbols need: checked for each row.
use Rattle.std.proofs.Common.{◌≡◌, ℕ, suc, ◌+◌, ◌-◌, ◌≤◌, max, Bool, ◌&&◌, nat_eq, nat_le, IsTrue, List, [], ◌∷◌, ◌++◌, refl, arith}
use Rattle.std.proofs.lemmas.Bool.Decides.{nat_tests}
use Rattle.av_tree.specs.declared.class.Class.{Class}
use Rattle.av_tree.specs.declared.class.Class.TheVariants as class
use Rattle.av_tree.specs.declared.class.Bracket.{Bracket}
use Rattle.av_tree.specs.declared.class.Bracket.TheVariants as bracket
use Rattle.av_tree.specs.declared.table.Test.{Test}
use Rattle.av_tree.specs.declared.table.Test.TheVariants as test
use Rattle.av_tree.specs.declared.table.Symbol.{Symbol}
use Rattle.av_tree.specs.declared.table.Symbol.TheVariants as symbol
use Rattle.av_tree.specs.declared.table.Name.{Name}
use Rattle.av_tree.specs.declared.table.Name.TheVariants as name
use Rattle.av_tree.specs.declared.table.Rule.{Rule}
use Rattle.av_tree.specs.declared.table.Rule.TheVariants as rule
use Rattle.av_tree.specs.declared.table.file.FileName.TheVariants as file_name
use Rattle.av_tree.specs.declared.table.functions.FunctionName.TheVariants as functions_name
use Rattle.av_tree.specs.declared.table.regions.RegionName.TheVariants as regions_name
use Rattle.av_tree.specs.declared.table.generic.GenericName.TheVariants as generic_name
use Rattle.av_tree.specs.declared.table.types.TypeName.TheVariants as types_name
use Rattle.av_tree.specs.declared.table.attributes.AttributeName.TheVariants as attributes_name
use Rattle.av_tree.specs.declared.table.maps.MapName.TheVariants as maps_name
use Rattle.av_tree.specs.declared.table.affine.AffineName.TheVariants as affine_name
use Rattle.av_tree.specs.declared.table.file.FileRule.TheVariants as file
use Rattle.av_tree.specs.declared.table.functions.FunctionRule.TheVariants as functions
use Rattle.av_tree.specs.declared.table.regions.RegionRule.TheVariants as regions
use Rattle.av_tree.specs.declared.table.generic.GenericRule.TheVariants as generic
use Rattle.av_tree.specs.declared.table.types.TypeRule.TheVariants as types
use Rattle.av_tree.specs.declared.table.attributes.AttributeRule.TheVariants as attributes
use Rattle.av_tree.specs.declared.table.maps.MapRule.TheVariants as maps
use Rattle.av_tree.specs.declared.table.values.ValueRule.TheVariants as values
use Rattle.av_tree.specs.declared.table.arith.ArithRule.TheVariants as arith
use Rattle.av_tree.specs.declared.table.affine.AffineRule.TheVariants as affine
use Rattle.av_tree.specs.declared.table.subscripts.SubscriptRule.TheVariants as subscripts
use Rattle.av_tree.specs.Classes.{fits_of, bracket_of}
use Rattle.av_tree.specs.Needs.{need_of}
use Rattle.av_dialects.specs.Rows.{Part, forms}
use Rattle.av_tree.specs.Forms.{form_symbols, need_of_form}
use Rattle.av_tree.specs.Table.{symbols_of, name_of}
use Rattle.av_tree.proofs.Choice.{both}
use Rattle.av_tree.proofs.Forms.{of-form}
use Rattle.std.specs.List.{list_all}
use Rattle.std.proofs.lemmas.Bool.{eqb-true}

-- the least number of further brackets that are open at once in whatever a name derives
abbrev pub need_of_name : Name → ℕ
need_of_name (name.File file_name.MapOrSet) = 2
need_of_name (name.File file_name.TopLevel) = 1
need_of_name (name.File file_name.Function) = 1
need_of_name (name.Function functions_name.Module) = 1
need_of_name (name.Function functions_name.NamedFunction) = 1
need_of_name (name.Region regions_name.Region) = 1
need_of_name (name.Generic generic_name.GenericParts) = 1
need_of_name (name.Generic generic_name.GenericRegion) = 1
need_of_name (name.Type types_name.MemRef) = 1
need_of_name (name.Type types_name.Vector) = 1
need_of_name (name.Attribute attributes_name.Dense) = 1
need_of_name (name.Attribute attributes_name.Dictionary) = 1
need_of_name (name.Map maps_name.AffineMap) = 2
need_of_name (name.Map maps_name.AffineSet) = 2
need_of_name (name.Map maps_name.Parameters) = 1
need_of_name (name.Affine affine_name.MapUse) = 1
need_of_name (name.Affine affine_name.SetUse) = 1
need_of_name (name.Affine affine_name.MapOperands) = 1
need_of_name _ = 0

-- what is needed before a token that does this to the brackets, where so much is needed after it
abbrev pub needed : Bracket → ℕ → ℕ
needed bracket.Opens after = suc after
needed bracket.Closes after = after - 1
needed bracket.None after = after

-- the least number of further brackets that are open at once where these symbols are left
abbrev pub lift : List Symbol → ℕ
lift [] = 0
lift (symbol.Sign s ∷ rest) = needed (bracket_of (class.Sign s)) (lift rest)
lift (symbol.Rows x ∷ rest) = max (need_of_name x) (lift rest)
lift (_ ∷ rest) = lift rest

abbrev raised : Bracket → ℕ → ℕ
raised bracket.Opens n = suc n
raised _ n = n

abbrev lowered : Bracket → ℕ → ℕ
lowered bracket.Closes n = suc n
lowered _ n = n

abbrev ups : List Symbol → ℕ
ups [] = 0
ups (symbol.Sign s ∷ rest) = raised (bracket_of (class.Sign s)) (ups rest)
ups (_ ∷ rest) = ups rest

abbrev downs : List Symbol → ℕ
downs [] = 0
downs (symbol.Sign s ∷ rest) = lowered (bracket_of (class.Sign s)) (downs rest)
downs (_ ∷ rest) = downs rest

-- A row needs at least what its name does, and closes no bracket more than it opens.
abbrev is_balanced : Rule → Bool
is_balanced r = nat_le (need_of_name (name_of r)) (lift (symbols_of r)) && nat_le (downs (symbols_of r)) (ups (symbols_of r))

abbrev is_balanced_form : List Part → Bool
is_balanced_form ps = nat_le 0 (lift (form_symbols ps)) && nat_le (downs (form_symbols ps)) (ups (form_symbols ps))

balanced-forms : IsTrue (list_all is_balanced_form forms)
unfolding forms
balanced-forms = refl

abbrev needs_so_many : List Part → Bool
needs_so_many ps = nat_eq (need_of_form ps) (lift (form_symbols ps))

needs-of-forms : IsTrue (list_all needs_so_many forms)
unfolding forms
needs-of-forms = refl

balanced : (r : Rule) → IsTrue (is_balanced r)
balanced (rule.Operation n) = of-form is_balanced_form refl balanced-forms n
balanced (rule.File file.WholeFile) = refl
balanced (rule.File file.NoMoreAliases) = refl
balanced (rule.File file.NextAlias) = refl
balanced (rule.File file.AliasOfMap) = refl
balanced (rule.File file.AliasOfSet) = refl
balanced (rule.File file.NoContent) = refl
balanced (rule.File file.NamedContent) = refl
balanced (rule.File file.PlainContent) = refl
balanced (rule.File file.OnlyModule) = refl
balanced (rule.File file.OnlyGenericModule) = refl
balanced (rule.File file.FirstFunction) = refl
balanced (rule.File file.NoMoreFunctions) = refl
balanced (rule.File file.NextNamedFunction) = refl
balanced (rule.File file.NextFunction) = refl
balanced (rule.File file.WrittenFunction) = refl
balanced (rule.File file.GenericFunction) = refl
balanced (rule.Function functions.BuiltinModule) = refl
balanced (rule.Function functions.NoSymbol) = refl
balanced (rule.Function functions.WrittenSymbol) = refl
balanced (rule.Function functions.FuncFunc) = refl
balanced (rule.Function functions.NoVisibility) = refl
balanced (rule.Function functions.WrittenVisibility) = refl
balanced (rule.Function functions.NoFunctionArguments) = refl
balanced (rule.Function functions.FirstFunctionArgument) = refl
balanced (rule.Function functions.NoMoreFunctionArguments) = refl
balanced (rule.Function functions.NextFunctionArgument) = refl
balanced (rule.Function functions.ArgumentOfFunction) = refl
balanced (rule.Function functions.ModuleForm) = refl
balanced (rule.Function functions.FunctionForm) = refl
balanced (rule.Region regions.NoMoreOperations) = refl
balanced (rule.Region regions.WithResults) = refl
balanced (rule.Region regions.WithoutResults) = refl
balanced (rule.Region regions.PlainOperation) = refl
balanced (rule.Region regions.TerminatorOperation) = refl
balanced (rule.Region regions.TerminatorWithValues) = refl
balanced (rule.Region regions.TerminatorLast) = refl
balanced (rule.Region regions.TerminatorThenOperation) = refl
balanced (rule.Region regions.ValuesAndTypes) = refl
balanced (rule.Region regions.NamedRegion) = refl
balanced (rule.Generic generic.GenericForm) = refl
balanced (rule.Generic generic.WholeGeneric) = refl
balanced (rule.Generic generic.NoProperties) = refl
balanced (rule.Generic generic.WrittenProperties) = refl
balanced (rule.Generic generic.NoRegions) = refl
balanced (rule.Generic generic.WrittenRegions) = refl
balanced (rule.Generic generic.NoMoreRegions) = refl
balanced (rule.Generic generic.NextRegion) = refl
balanced (rule.Generic generic.LabelledRegion) = refl
balanced (rule.Generic generic.NoLabel) = refl
balanced (rule.Generic generic.BlockLabel) = refl
balanced (rule.Generic generic.NoArguments) = refl
balanced (rule.Generic generic.FirstArgument) = refl
balanced (rule.Generic generic.NoMoreArguments) = refl
balanced (rule.Generic generic.NextArgument) = refl
balanced (rule.Type types.ScalarType) = refl
balanced (rule.Type types.BufferType) = refl
balanced (rule.Type types.TileType) = refl
balanced (rule.Type types.MemRefType) = refl
balanced (rule.Type types.NoMoreSizes) = refl
balanced (rule.Type types.NextSize) = refl
balanced (rule.Type types.VectorType) = refl
balanced (rule.Type types.NoMoreDims) = refl
balanced (rule.Type types.FixedDim) = refl
balanced (rule.Type types.ScalableDim) = refl
balanced (rule.Type types.NoTypes) = refl
balanced (rule.Type types.FirstType) = refl
balanced (rule.Type types.NoMoreTypes) = refl
balanced (rule.Type types.NextType) = refl
balanced (rule.Type types.OneResultType) = refl
balanced (rule.Type types.ResultTypeList) = refl
balanced (rule.Type types.NoResultTypes) = refl
balanced (rule.Type types.WrittenResultTypes) = refl
balanced (rule.Type types.NoLayout) = refl
balanced (rule.Type types.StridedLayout) = refl
balanced (rule.Type types.NoStrides) = refl
balanced (rule.Type types.FirstStride) = refl
balanced (rule.Type types.NoMoreStrides) = refl
balanced (rule.Type types.NextStride) = refl
balanced (rule.Type types.StaticStride) = refl
balanced (rule.Type types.DynamicStride) = refl
balanced (rule.Type types.NoOffset) = refl
balanced (rule.Type types.WrittenOffset) = refl
balanced (rule.Attribute attributes.NumberAttribute) = refl
balanced (rule.Attribute attributes.BoolAttribute) = refl
balanced (rule.Attribute attributes.StringAttribute) = refl
balanced (rule.Attribute attributes.SymbolAttribute) = refl
balanced (rule.Attribute attributes.TypeAttribute) = refl
balanced (rule.Attribute attributes.MapAttribute) = refl
balanced (rule.Attribute attributes.SetAttribute) = refl
balanced (rule.Attribute attributes.AliasAttribute) = refl
balanced (rule.Attribute attributes.HashAttribute) = refl
balanced (rule.Attribute attributes.ListAttribute) = refl
balanced (rule.Attribute attributes.DictionaryAttribute) = refl
balanced (rule.Attribute attributes.ArrayAttribute) = refl
balanced (rule.Attribute attributes.DenseAttribute) = refl
balanced (rule.Attribute attributes.NoNumberType) = refl
balanced (rule.Attribute attributes.WrittenNumberType) = refl
balanced (rule.Attribute attributes.NoHashWords) = refl
balanced (rule.Attribute attributes.WrittenHashWords) = refl
balanced (rule.Attribute attributes.NoAttributes) = refl
balanced (rule.Attribute attributes.FirstAttribute) = refl
balanced (rule.Attribute attributes.NoMoreAttributes) = refl
balanced (rule.Attribute attributes.NextAttribute) = refl
balanced (rule.Attribute attributes.NoArrayNumbers) = refl
balanced (rule.Attribute attributes.WrittenArrayNumbers) = refl
balanced (rule.Attribute attributes.DenseElements) = refl
balanced (rule.Attribute attributes.NumberElement) = refl
balanced (rule.Attribute attributes.BoolElement) = refl
balanced (rule.Attribute attributes.ListElement) = refl
balanced (rule.Attribute attributes.NoElements) = refl
balanced (rule.Attribute attributes.FirstElement) = refl
balanced (rule.Attribute attributes.NoMoreElements) = refl
balanced (rule.Attribute attributes.NextElement) = refl
balanced (rule.Attribute attributes.WrittenDictionary) = refl
balanced (rule.Attribute attributes.NoEntries) = refl
balanced (rule.Attribute attributes.FirstEntry) = refl
balanced (rule.Attribute attributes.NoMoreEntries) = refl
balanced (rule.Attribute attributes.NextEntry) = refl
balanced (rule.Attribute attributes.PlainEntry) = refl
balanced (rule.Attribute attributes.FunctionTypeEntry) = refl
balanced (rule.Attribute attributes.UnitEntry) = refl
balanced (rule.Attribute attributes.WrittenEntry) = refl
balanced (rule.Attribute attributes.UnitFunctionType) = refl
balanced (rule.Attribute attributes.WrittenFunctionType) = refl
balanced (rule.Attribute attributes.NoFunctionType) = refl
balanced (rule.Attribute attributes.FunctionType) = refl
balanced (rule.Attribute attributes.NoDictionary) = refl
balanced (rule.Attribute attributes.DictionaryHere) = refl
balanced (rule.Attribute attributes.NoAttributesPart) = refl
balanced (rule.Attribute attributes.AttributesPart) = refl
balanced (rule.Map maps.WrittenMap) = refl
balanced (rule.Map maps.WrittenSet) = refl
balanced (rule.Map maps.DimensionNames) = refl
balanced (rule.Map maps.NoSymbolNames) = refl
balanced (rule.Map maps.WrittenSymbolNames) = refl
balanced (rule.Map maps.NoWords) = refl
balanced (rule.Map maps.FirstWord) = refl
balanced (rule.Map maps.NoMoreWords) = refl
balanced (rule.Map maps.NextWord) = refl
balanced (rule.Map maps.NoExpressions) = refl
balanced (rule.Map maps.FirstExpression) = refl
balanced (rule.Map maps.NoMoreExpressions) = refl
balanced (rule.Map maps.NextExpression) = refl
balanced (rule.Map maps.NoSetRows) = refl
balanced (rule.Map maps.FirstSetRow) = refl
balanced (rule.Map maps.NoMoreSetRows) = refl
balanced (rule.Map maps.NextSetRow) = refl
balanced (rule.Map maps.RowOfSet) = refl
balanced (rule.Map maps.AtLeastZero) = refl
balanced (rule.Map maps.EqualToZero) = refl
balanced (rule.Map maps.WholeExpression) = refl
balanced (rule.Map maps.NoMoreTerms) = refl
balanced (rule.Map maps.PlusTerm) = refl
balanced (rule.Map maps.MinusTerm) = refl
balanced (rule.Map maps.WholeTerm) = refl
balanced (rule.Map maps.NoMoreFactors) = refl
balanced (rule.Map maps.TimesFactor) = refl
balanced (rule.Map maps.DivisionFactor) = refl
balanced (rule.Map maps.NumberFactor) = refl
balanced (rule.Map maps.PlainFactor) = refl
balanced (rule.Map maps.MinusFactor) = refl
balanced (rule.Map maps.NegativeNumber) = refl
balanced (rule.Map maps.NegatedBase) = refl
balanced (rule.Map maps.ParameterName) = refl
balanced (rule.Map maps.DivisionName) = refl
balanced (rule.Map maps.InBrackets) = refl
balanced (rule.Value values.NamedValue) = refl
balanced (rule.Value values.NoResultNumber) = refl
balanced (rule.Value values.WrittenResultNumber) = refl
balanced (rule.Value values.NoValues) = refl
balanced (rule.Value values.FirstValue) = refl
balanced (rule.Value values.NoMoreValues) = refl
balanced (rule.Value values.NextValue) = refl
balanced (rule.Value values.NoFurtherValue) = refl
balanced (rule.Value values.FurtherValue) = refl
balanced (rule.Value values.PlainInteger) = refl
balanced (rule.Value values.NegativeInteger) = refl
balanced (rule.Value values.NoIntegers) = refl
balanced (rule.Value values.FirstInteger) = refl
balanced (rule.Value values.NoMoreIntegers) = refl
balanced (rule.Value values.NextInteger) = refl
balanced (rule.Value values.ResultNames) = refl
balanced (rule.Value values.NoMoreResults) = refl
balanced (rule.Value values.NextResult) = refl
balanced (rule.Value values.OneResult) = refl
balanced (rule.Value values.CountedResults) = refl
balanced (rule.Arith arith.BoolConstant) = refl
balanced (rule.Arith arith.NumberConstant) = refl
balanced (rule.Arith arith.DenseConstant) = refl
balanced (rule.Arith arith.NoOverflow) = refl
balanced (rule.Arith arith.WrittenOverflow) = refl
balanced (rule.Arith arith.NoMoreOverflowFlags) = refl
balanced (rule.Arith arith.NextOverflowFlag) = refl
balanced (rule.Arith arith.ScalarSelected) = refl
balanced (rule.Arith arith.BufferSelected) = refl
balanced (rule.Arith arith.VectorThenSelected) = refl
balanced (rule.Arith arith.OnlySelected) = refl
balanced (rule.Arith arith.SelectedByVector) = refl
balanced (rule.Affine affine.GreatestOf) = refl
balanced (rule.Affine affine.PlainLowerBound) = refl
balanced (rule.Affine affine.LeastOf) = refl
balanced (rule.Affine affine.PlainUpperBound) = refl
balanced (rule.Affine affine.NumberBound) = refl
balanced (rule.Affine affine.ValueBound) = refl
balanced (rule.Affine affine.MapBound) = refl
balanced (rule.Affine affine.NoStep) = refl
balanced (rule.Affine affine.WrittenStep) = refl
balanced (rule.Affine affine.NoIterArgs) = refl
balanced (rule.Affine affine.WrittenIterArgs) = refl
balanced (rule.Affine affine.NoCarried) = refl
balanced (rule.Affine affine.FirstCarried) = refl
balanced (rule.Affine affine.NoMoreCarried) = refl
balanced (rule.Affine affine.NextCarried) = refl
balanced (rule.Affine affine.MapWritten) = refl
balanced (rule.Affine affine.MapByAlias) = refl
balanced (rule.Affine affine.SetWritten) = refl
balanced (rule.Affine affine.SetByAlias) = refl
balanced (rule.Affine affine.DimensionOperands) = refl
balanced (rule.Affine affine.NoSymbolOperands) = refl
balanced (rule.Affine affine.WrittenSymbolOperands) = refl
balanced (rule.Affine affine.NoElse) = refl
balanced (rule.Affine affine.WrittenElse) = refl
balanced (rule.Subscript subscripts.NoSubscripts) = refl
balanced (rule.Subscript subscripts.FirstSubscript) = refl
balanced (rule.Subscript subscripts.NoMoreSubscripts) = refl
balanced (rule.Subscript subscripts.NextSubscript) = refl
balanced (rule.Subscript subscripts.WholeSubscript) = refl
balanced (rule.Subscript subscripts.NoMoreSubscriptTerms) = refl
balanced (rule.Subscript subscripts.PlusSubscriptTerm) = refl
balanced (rule.Subscript subscripts.MinusSubscriptTerm) = refl
balanced (rule.Subscript subscripts.WholeSubscriptTerm) = refl
balanced (rule.Subscript subscripts.NoMoreSubscriptFactors) = refl
balanced (rule.Subscript subscripts.TimesSubscriptFactor) = refl
balanced (rule.Subscript subscripts.DivisionSubscriptFactor) = refl
balanced (rule.Subscript subscripts.NumberSubscriptFactor) = refl
balanced (rule.Subscript subscripts.PlainSubscriptFactor) = refl
balanced (rule.Subscript subscripts.MinusSubscriptFactor) = refl
balanced (rule.Subscript subscripts.NegativeSubscriptNumber) = refl
balanced (rule.Subscript subscripts.NegatedSubscriptBase) = refl
balanced (rule.Subscript subscripts.DimensionValue) = refl
balanced (rule.Subscript subscripts.SymbolValue) = refl
balanced (rule.Subscript subscripts.SubscriptInBrackets) = refl

pub need-of-symbols : (r : Rule) → need_of r ≡ lift (symbols_of r)
need-of-symbols (rule.Operation n) = eqb-true _ _ (of-form needs_so_many refl needs-of-forms n)
need-of-symbols (rule.File file.WholeFile) = refl
need-of-symbols (rule.File file.NoMoreAliases) = refl
need-of-symbols (rule.File file.NextAlias) = refl
need-of-symbols (rule.File file.AliasOfMap) = refl
need-of-symbols (rule.File file.AliasOfSet) = refl
need-of-symbols (rule.File file.NoContent) = refl
need-of-symbols (rule.File file.NamedContent) = refl
need-of-symbols (rule.File file.PlainContent) = refl
need-of-symbols (rule.File file.OnlyModule) = refl
need-of-symbols (rule.File file.OnlyGenericModule) = refl
need-of-symbols (rule.File file.FirstFunction) = refl
need-of-symbols (rule.File file.NoMoreFunctions) = refl
need-of-symbols (rule.File file.NextNamedFunction) = refl
need-of-symbols (rule.File file.NextFunction) = refl
need-of-symbols (rule.File file.WrittenFunction) = refl
need-of-symbols (rule.File file.GenericFunction) = refl
need-of-symbols (rule.Function functions.BuiltinModule) = refl
need-of-symbols (rule.Function functions.NoSymbol) = refl
need-of-symbols (rule.Function functions.WrittenSymbol) = refl
need-of-symbols (rule.Function functions.FuncFunc) = refl
need-of-symbols (rule.Function functions.NoVisibility) = refl
need-of-symbols (rule.Function functions.WrittenVisibility) = refl
need-of-symbols (rule.Function functions.NoFunctionArguments) = refl
need-of-symbols (rule.Function functions.FirstFunctionArgument) = refl
need-of-symbols (rule.Function functions.NoMoreFunctionArguments) = refl
need-of-symbols (rule.Function functions.NextFunctionArgument) = refl
need-of-symbols (rule.Function functions.ArgumentOfFunction) = refl
need-of-symbols (rule.Function functions.ModuleForm) = refl
need-of-symbols (rule.Function functions.FunctionForm) = refl
need-of-symbols (rule.Region regions.NoMoreOperations) = refl
need-of-symbols (rule.Region regions.WithResults) = refl
need-of-symbols (rule.Region regions.WithoutResults) = refl
need-of-symbols (rule.Region regions.PlainOperation) = refl
need-of-symbols (rule.Region regions.TerminatorOperation) = refl
need-of-symbols (rule.Region regions.TerminatorWithValues) = refl
need-of-symbols (rule.Region regions.TerminatorLast) = refl
need-of-symbols (rule.Region regions.TerminatorThenOperation) = refl
need-of-symbols (rule.Region regions.ValuesAndTypes) = refl
need-of-symbols (rule.Region regions.NamedRegion) = refl
need-of-symbols (rule.Generic generic.GenericForm) = refl
need-of-symbols (rule.Generic generic.WholeGeneric) = refl
need-of-symbols (rule.Generic generic.NoProperties) = refl
need-of-symbols (rule.Generic generic.WrittenProperties) = refl
need-of-symbols (rule.Generic generic.NoRegions) = refl
need-of-symbols (rule.Generic generic.WrittenRegions) = refl
need-of-symbols (rule.Generic generic.NoMoreRegions) = refl
need-of-symbols (rule.Generic generic.NextRegion) = refl
need-of-symbols (rule.Generic generic.LabelledRegion) = refl
need-of-symbols (rule.Generic generic.NoLabel) = refl
need-of-symbols (rule.Generic generic.BlockLabel) = refl
need-of-symbols (rule.Generic generic.NoArguments) = refl
need-of-symbols (rule.Generic generic.FirstArgument) = refl
need-of-symbols (rule.Generic generic.NoMoreArguments) = refl
need-of-symbols (rule.Generic generic.NextArgument) = refl
need-of-symbols (rule.Type types.ScalarType) = refl
need-of-symbols (rule.Type types.BufferType) = refl
need-of-symbols (rule.Type types.TileType) = refl
need-of-symbols (rule.Type types.MemRefType) = refl
need-of-symbols (rule.Type types.NoMoreSizes) = refl
need-of-symbols (rule.Type types.NextSize) = refl
need-of-symbols (rule.Type types.VectorType) = refl
need-of-symbols (rule.Type types.NoMoreDims) = refl
need-of-symbols (rule.Type types.FixedDim) = refl
need-of-symbols (rule.Type types.ScalableDim) = refl
need-of-symbols (rule.Type types.NoTypes) = refl
need-of-symbols (rule.Type types.FirstType) = refl
need-of-symbols (rule.Type types.NoMoreTypes) = refl
need-of-symbols (rule.Type types.NextType) = refl
need-of-symbols (rule.Type types.OneResultType) = refl
need-of-symbols (rule.Type types.ResultTypeList) = refl
need-of-symbols (rule.Type types.NoResultTypes) = refl
need-of-symbols (rule.Type types.WrittenResultTypes) = refl
need-of-symbols (rule.Type types.NoLayout) = refl
need-of-symbols (rule.Type types.StridedLayout) = refl
need-of-symbols (rule.Type types.NoStrides) = refl
need-of-symbols (rule.Type types.FirstStride) = refl
need-of-symbols (rule.Type types.NoMoreStrides) = refl
need-of-symbols (rule.Type types.NextStride) = refl
need-of-symbols (rule.Type types.StaticStride) = refl
need-of-symbols (rule.Type types.DynamicStride) = refl
need-of-symbols (rule.Type types.NoOffset) = refl
need-of-symbols (rule.Type types.WrittenOffset) = refl
need-of-symbols (rule.Attribute attributes.NumberAttribute) = refl
need-of-symbols (rule.Attribute attributes.BoolAttribute) = refl
need-of-symbols (rule.Attribute attributes.StringAttribute) = refl
need-of-symbols (rule.Attribute attributes.SymbolAttribute) = refl
need-of-symbols (rule.Attribute attributes.TypeAttribute) = refl
need-of-symbols (rule.Attribute attributes.MapAttribute) = refl
need-of-symbols (rule.Attribute attributes.SetAttribute) = refl
need-of-symbols (rule.Attribute attributes.AliasAttribute) = refl
need-of-symbols (rule.Attribute attributes.HashAttribute) = refl
need-of-symbols (rule.Attribute attributes.ListAttribute) = refl
need-of-symbols (rule.Attribute attributes.DictionaryAttribute) = refl
need-of-symbols (rule.Attribute attributes.ArrayAttribute) = refl
need-of-symbols (rule.Attribute attributes.DenseAttribute) = refl
need-of-symbols (rule.Attribute attributes.NoNumberType) = refl
need-of-symbols (rule.Attribute attributes.WrittenNumberType) = refl
need-of-symbols (rule.Attribute attributes.NoHashWords) = refl
need-of-symbols (rule.Attribute attributes.WrittenHashWords) = refl
need-of-symbols (rule.Attribute attributes.NoAttributes) = refl
need-of-symbols (rule.Attribute attributes.FirstAttribute) = refl
need-of-symbols (rule.Attribute attributes.NoMoreAttributes) = refl
need-of-symbols (rule.Attribute attributes.NextAttribute) = refl
need-of-symbols (rule.Attribute attributes.NoArrayNumbers) = refl
need-of-symbols (rule.Attribute attributes.WrittenArrayNumbers) = refl
need-of-symbols (rule.Attribute attributes.DenseElements) = refl
need-of-symbols (rule.Attribute attributes.NumberElement) = refl
need-of-symbols (rule.Attribute attributes.BoolElement) = refl
need-of-symbols (rule.Attribute attributes.ListElement) = refl
need-of-symbols (rule.Attribute attributes.NoElements) = refl
need-of-symbols (rule.Attribute attributes.FirstElement) = refl
need-of-symbols (rule.Attribute attributes.NoMoreElements) = refl
need-of-symbols (rule.Attribute attributes.NextElement) = refl
need-of-symbols (rule.Attribute attributes.WrittenDictionary) = refl
need-of-symbols (rule.Attribute attributes.NoEntries) = refl
need-of-symbols (rule.Attribute attributes.FirstEntry) = refl
need-of-symbols (rule.Attribute attributes.NoMoreEntries) = refl
need-of-symbols (rule.Attribute attributes.NextEntry) = refl
need-of-symbols (rule.Attribute attributes.PlainEntry) = refl
need-of-symbols (rule.Attribute attributes.FunctionTypeEntry) = refl
need-of-symbols (rule.Attribute attributes.UnitEntry) = refl
need-of-symbols (rule.Attribute attributes.WrittenEntry) = refl
need-of-symbols (rule.Attribute attributes.UnitFunctionType) = refl
need-of-symbols (rule.Attribute attributes.WrittenFunctionType) = refl
need-of-symbols (rule.Attribute attributes.NoFunctionType) = refl
need-of-symbols (rule.Attribute attributes.FunctionType) = refl
need-of-symbols (rule.Attribute attributes.NoDictionary) = refl
need-of-symbols (rule.Attribute attributes.DictionaryHere) = refl
need-of-symbols (rule.Attribute attributes.NoAttributesPart) = refl
need-of-symbols (rule.Attribute attributes.AttributesPart) = refl
need-of-symbols (rule.Map maps.WrittenMap) = refl
need-of-symbols (rule.Map maps.WrittenSet) = refl
need-of-symbols (rule.Map maps.DimensionNames) = refl
need-of-symbols (rule.Map maps.NoSymbolNames) = refl
need-of-symbols (rule.Map maps.WrittenSymbolNames) = refl
need-of-symbols (rule.Map maps.NoWords) = refl
need-of-symbols (rule.Map maps.FirstWord) = refl
need-of-symbols (rule.Map maps.NoMoreWords) = refl
need-of-symbols (rule.Map maps.NextWord) = refl
need-of-symbols (rule.Map maps.NoExpressions) = refl
need-of-symbols (rule.Map maps.FirstExpression) = refl
need-of-symbols (rule.Map maps.NoMoreExpressions) = refl
need-of-symbols (rule.Map maps.NextExpression) = refl
need-of-symbols (rule.Map maps.NoSetRows) = refl
need-of-symbols (rule.Map maps.FirstSetRow) = refl
need-of-symbols (rule.Map maps.NoMoreSetRows) = refl
need-of-symbols (rule.Map maps.NextSetRow) = refl
need-of-symbols (rule.Map maps.RowOfSet) = refl
need-of-symbols (rule.Map maps.AtLeastZero) = refl
need-of-symbols (rule.Map maps.EqualToZero) = refl
need-of-symbols (rule.Map maps.WholeExpression) = refl
need-of-symbols (rule.Map maps.NoMoreTerms) = refl
need-of-symbols (rule.Map maps.PlusTerm) = refl
need-of-symbols (rule.Map maps.MinusTerm) = refl
need-of-symbols (rule.Map maps.WholeTerm) = refl
need-of-symbols (rule.Map maps.NoMoreFactors) = refl
need-of-symbols (rule.Map maps.TimesFactor) = refl
need-of-symbols (rule.Map maps.DivisionFactor) = refl
need-of-symbols (rule.Map maps.NumberFactor) = refl
need-of-symbols (rule.Map maps.PlainFactor) = refl
need-of-symbols (rule.Map maps.MinusFactor) = refl
need-of-symbols (rule.Map maps.NegativeNumber) = refl
need-of-symbols (rule.Map maps.NegatedBase) = refl
need-of-symbols (rule.Map maps.ParameterName) = refl
need-of-symbols (rule.Map maps.DivisionName) = refl
need-of-symbols (rule.Map maps.InBrackets) = refl
need-of-symbols (rule.Value values.NamedValue) = refl
need-of-symbols (rule.Value values.NoResultNumber) = refl
need-of-symbols (rule.Value values.WrittenResultNumber) = refl
need-of-symbols (rule.Value values.NoValues) = refl
need-of-symbols (rule.Value values.FirstValue) = refl
need-of-symbols (rule.Value values.NoMoreValues) = refl
need-of-symbols (rule.Value values.NextValue) = refl
need-of-symbols (rule.Value values.NoFurtherValue) = refl
need-of-symbols (rule.Value values.FurtherValue) = refl
need-of-symbols (rule.Value values.PlainInteger) = refl
need-of-symbols (rule.Value values.NegativeInteger) = refl
need-of-symbols (rule.Value values.NoIntegers) = refl
need-of-symbols (rule.Value values.FirstInteger) = refl
need-of-symbols (rule.Value values.NoMoreIntegers) = refl
need-of-symbols (rule.Value values.NextInteger) = refl
need-of-symbols (rule.Value values.ResultNames) = refl
need-of-symbols (rule.Value values.NoMoreResults) = refl
need-of-symbols (rule.Value values.NextResult) = refl
need-of-symbols (rule.Value values.OneResult) = refl
need-of-symbols (rule.Value values.CountedResults) = refl
need-of-symbols (rule.Arith arith.BoolConstant) = refl
need-of-symbols (rule.Arith arith.NumberConstant) = refl
need-of-symbols (rule.Arith arith.DenseConstant) = refl
need-of-symbols (rule.Arith arith.NoOverflow) = refl
need-of-symbols (rule.Arith arith.WrittenOverflow) = refl
need-of-symbols (rule.Arith arith.NoMoreOverflowFlags) = refl
need-of-symbols (rule.Arith arith.NextOverflowFlag) = refl
need-of-symbols (rule.Arith arith.ScalarSelected) = refl
need-of-symbols (rule.Arith arith.BufferSelected) = refl
need-of-symbols (rule.Arith arith.VectorThenSelected) = refl
need-of-symbols (rule.Arith arith.OnlySelected) = refl
need-of-symbols (rule.Arith arith.SelectedByVector) = refl
need-of-symbols (rule.Affine affine.GreatestOf) = refl
need-of-symbols (rule.Affine affine.PlainLowerBound) = refl
need-of-symbols (rule.Affine affine.LeastOf) = refl
need-of-symbols (rule.Affine affine.PlainUpperBound) = refl
need-of-symbols (rule.Affine affine.NumberBound) = refl
need-of-symbols (rule.Affine affine.ValueBound) = refl
need-of-symbols (rule.Affine affine.MapBound) = refl
need-of-symbols (rule.Affine affine.NoStep) = refl
need-of-symbols (rule.Affine affine.WrittenStep) = refl
need-of-symbols (rule.Affine affine.NoIterArgs) = refl
need-of-symbols (rule.Affine affine.WrittenIterArgs) = refl
need-of-symbols (rule.Affine affine.NoCarried) = refl
need-of-symbols (rule.Affine affine.FirstCarried) = refl
need-of-symbols (rule.Affine affine.NoMoreCarried) = refl
need-of-symbols (rule.Affine affine.NextCarried) = refl
need-of-symbols (rule.Affine affine.MapWritten) = refl
need-of-symbols (rule.Affine affine.MapByAlias) = refl
need-of-symbols (rule.Affine affine.SetWritten) = refl
need-of-symbols (rule.Affine affine.SetByAlias) = refl
need-of-symbols (rule.Affine affine.DimensionOperands) = refl
need-of-symbols (rule.Affine affine.NoSymbolOperands) = refl
need-of-symbols (rule.Affine affine.WrittenSymbolOperands) = refl
need-of-symbols (rule.Affine affine.NoElse) = refl
need-of-symbols (rule.Affine affine.WrittenElse) = refl
need-of-symbols (rule.Subscript subscripts.NoSubscripts) = refl
need-of-symbols (rule.Subscript subscripts.FirstSubscript) = refl
need-of-symbols (rule.Subscript subscripts.NoMoreSubscripts) = refl
need-of-symbols (rule.Subscript subscripts.NextSubscript) = refl
need-of-symbols (rule.Subscript subscripts.WholeSubscript) = refl
need-of-symbols (rule.Subscript subscripts.NoMoreSubscriptTerms) = refl
need-of-symbols (rule.Subscript subscripts.PlusSubscriptTerm) = refl
need-of-symbols (rule.Subscript subscripts.MinusSubscriptTerm) = refl
need-of-symbols (rule.Subscript subscripts.WholeSubscriptTerm) = refl
need-of-symbols (rule.Subscript subscripts.NoMoreSubscriptFactors) = refl
need-of-symbols (rule.Subscript subscripts.TimesSubscriptFactor) = refl
need-of-symbols (rule.Subscript subscripts.DivisionSubscriptFactor) = refl
need-of-symbols (rule.Subscript subscripts.NumberSubscriptFactor) = refl
need-of-symbols (rule.Subscript subscripts.PlainSubscriptFactor) = refl
need-of-symbols (rule.Subscript subscripts.MinusSubscriptFactor) = refl
need-of-symbols (rule.Subscript subscripts.NegativeSubscriptNumber) = refl
need-of-symbols (rule.Subscript subscripts.NegatedSubscriptBase) = refl
need-of-symbols (rule.Subscript subscripts.DimensionValue) = refl
need-of-symbols (rule.Subscript subscripts.SymbolValue) = refl
need-of-symbols (rule.Subscript subscripts.SubscriptInBrackets) = refl

at-most : (a b : ℕ) → IsTrue (nat_le a b) → a ≤ b
at-most a b t = grind (arith, nat_tests)

needed-more : (b : Bracket) (m n : ℕ) → m ≤ n → needed b m ≤ needed b n
needed-more bracket.Opens m n h = omega arith
needed-more bracket.Closes m n h = omega arith
needed-more bracket.None m n h = h

needed-rest : (b : Bracket) (y u z d : ℕ) → y + u ≤ z + d → y + raised b u ≤ needed b z + lowered b d
needed-rest bracket.Opens y u z d h = omega arith
needed-rest bracket.Closes y u z d h = omega arith
needed-rest bracket.None y u z d h = h

max-below : (a y l z u d : ℕ) → a ≤ l → d ≤ u → l ≤ z → y + u ≤ z + d → max a y ≤ z
max-below a y l z u d h1 h2 h3 h4 = omega arith

lift-more : (xs ys : List Symbol) → lift xs ≤ lift (xs ++ ys)
lift-more [] ys = omega arith
lift-more (symbol.Word w ∷ xs) ys = lift-more xs ys
lift-more (symbol.Token t ∷ xs) ys = lift-more xs ys
lift-more (symbol.Rows x ∷ xs) ys = let h : lift xs ≤ lift (xs ++ ys) = lift-more xs ys in omega arith
lift-more (symbol.Sign s ∷ xs) ys = needed-more (bracket_of (class.Sign s)) (lift xs) (lift (xs ++ ys)) (lift-more xs ys)

lift-rest : (xs ys : List Symbol) → lift ys + ups xs ≤ lift (xs ++ ys) + downs xs
lift-rest [] ys = omega arith
lift-rest (symbol.Word w ∷ xs) ys = lift-rest xs ys
lift-rest (symbol.Token t ∷ xs) ys = lift-rest xs ys
lift-rest (symbol.Rows x ∷ xs) ys = let h : lift ys + ups xs ≤ lift (xs ++ ys) + downs xs = lift-rest xs ys in omega arith
lift-rest (symbol.Sign s ∷ xs) ys = needed-rest (bracket_of (class.Sign s)) (lift ys) (ups xs) (lift (xs ++ ys)) (downs xs) (lift-rest xs ys)

-- A name needs no more than any of its rows.
pub lift-row : (r : Rule) (ss : List Symbol) → lift (symbol.Rows (name_of r) ∷ ss) ≤ lift (symbols_of r ++ ss)
lift-row r ss =
    let own : need_of_name (name_of r) ≤ lift (symbols_of r) = at-most _ _ (both _ _ (balanced r)).0 in
    let even : downs (symbols_of r) ≤ ups (symbols_of r) = at-most _ _ (both _ _ (balanced r)).1 in
    max-below (need_of_name (name_of r)) (lift ss) (lift (symbols_of r)) (lift (symbols_of r ++ ss)) (ups (symbols_of r)) (downs (symbols_of r)) own even (lift-more (symbols_of r) ss) (lift-rest (symbols_of r) ss)

pub need-within : (r : Rule) (ss : List Symbol) → need_of r ≤ lift (symbols_of r ++ ss)
need-within r ss = rw (need-of-symbols r) (lift-more (symbols_of r) ss)

-- A token that a test asks for is no bracket.
pub no-bracket : (t : Test) (c : Class) → IsTrue (fits_of t c) → bracket_of c ≡ bracket.None
no-bracket test.Number (class.Sign s) h = absurd (cc)
no-bracket test.Zero (class.Sign s) h = absurd (cc)
no-bracket test.DimX (class.Sign s) h = absurd (cc)
no-bracket test.ScalX (class.Sign s) h = absurd (cc)
no-bracket test.Scalar (class.Sign s) h = absurd (cc)
no-bracket test.ValId (class.Sign s) h = absurd (cc)
no-bracket test.SymId (class.Sign s) h = absurd (cc)
no-bracket test.CaretId (class.Sign s) h = absurd (cc)
no-bracket test.HashDigits (class.Sign s) h = absurd (cc)
no-bracket test.HashWord (class.Sign s) h = absurd (cc)
no-bracket test.HashId (class.Sign s) h = absurd (cc)
no-bracket test.AliasOnly (class.Sign s) h = absurd (cc)
no-bracket test.String (class.Sign s) h = absurd (cc)
no-bracket test.ModuleString (class.Sign s) h = absurd (cc)
no-bracket test.FuncString (class.Sign s) h = absurd (cc)
no-bracket test.Word (class.Sign s) h = absurd (cc)
no-bracket test.Parameter (class.Sign s) h = absurd (cc)
no-bracket test.EntryName (class.Sign s) h = absurd (cc)
no-bracket test.Terminator (class.Sign s) h = absurd (cc)
no-bracket test.Predicate (class.Sign s) h = absurd (cc)
no-bracket test.Kind (class.Sign s) h = absurd (cc)
no-bracket test.Bool (class.Sign s) h = absurd (cc)
no-bracket test.Visibility (class.Sign s) h = absurd (cc)
no-bracket test.OverflowFlag (class.Sign s) h = absurd (cc)
no-bracket test.Division (class.Sign s) h = absurd (cc)
no-bracket t class.End h = refl
no-bracket t class.Scalar h = refl
no-bracket t class.OtherWord h = refl
no-bracket t class.Zero h = refl
no-bracket t class.Positive h = refl
no-bracket t class.DimX h = refl
no-bracket t class.ScalX h = refl
no-bracket t class.ValId h = refl
no-bracket t class.SymId h = refl
no-bracket t class.HashDigits h = refl
no-bracket t class.HashWord h = refl
no-bracket t class.HashOther h = refl
no-bracket t class.CaretId h = refl
no-bracket t class.QuotedModule h = refl
no-bracket t class.QuotedFunc h = refl
no-bracket t class.Quoted h = refl
no-bracket t (class.Word w) h = refl
