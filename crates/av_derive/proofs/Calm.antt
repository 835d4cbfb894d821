-- A row that a closing bracket chooses needs no bracket and counts no sign: checked for each row.
use Rattle.std.proofs.Common.{◌≡◌, ℕ, Bool, true, false, ◌&&◌, not, nat_eq, IsTrue, refl, arith}
use Rattle.std.proofs.lemmas.Bool.Decides.{nat_tests}
use Rattle.av_lex.specs.declared.token.Sign.{Sign}
use Rattle.av_lex.specs.declared.token.Sign.TheVariants as sign
use Rattle.av_tree.specs.declared.class.Class.{Class}
use Rattle.av_tree.specs.declared.class.Class.TheVariants as class
use Rattle.av_tree.specs.declared.class.Bracket.TheVariants as bracket
use Rattle.av_tree.specs.declared.table.Rule.{Rule}
use Rattle.av_tree.specs.declared.table.Rule.TheVariants as rule
use Rattle.av_tree.specs.declared.table.file.FileRule.TheVariants as file
use Rattle.av_tree.specs.declared.table.functions.FunctionRule.TheVariants as functions
use Rattle.av_tree.specs.declared.table.regions.RegionRule.TheVariants as regions
use Rattle.av_tree.specs.declared.table.generic.GenericRule.TheVariants as generic
use Rattle.av_tree.specs.declared.table.types.TypeRule.TheVariants as types
use Rattle.av_tree.specs.declared.table.attributes.AttributeRule.TheVariants as attributes
use Rattle.av_tree.specs.declared.table.maps.MapRule.TheVariants as maps
use Rattle.av_tree.specs.declared.table.values.ValueRule.TheVariants as values
use Rattle.av_tree.specs.declared.table.arith.ArithRule.TheVariants as arith
use Rattle.av_tree.specs.declared.table.affine.AffineRule.TheVariants as affine
use Rattle.av_tree.specs.declared.table.subscripts.SubscriptRule.TheVariants as subscripts
use Rattle.av_tree.specs.Table.{symbols_of, name_of}
use Rattle.av_tree.specs.Classes.{bracket_of}
use Rattle.av_tree.specs.Needs.{need_of}
use Rattle.av_tree.specs.Signs.{counts_sign}
use Rattle.av_tree.specs.Sets.{class_number, operation_in, first_of, follow_of, has, is_same_class}
use Rattle.av_tree.proofs.Choice.{both, implied, implies, starts_before}

abbrev is_calm : Rule → Class → Bool
is_calm r c = implies (starts_before (symbols_of r) (name_of r) c) (nat_eq (need_of r) 0 && not (counts_sign r))

abbrev is_calm_always : Rule → Bool
is_calm_always r =
    (is_calm r (class.Sign sign.CloseRound) && is_calm r (class.Sign sign.CloseCurly)) &&
    (is_calm r (class.Sign sign.CloseSquare) && is_calm r (class.Sign sign.CloseAngle))

calm_always : (r : Rule) → IsTrue (is_calm_always r)
unfolding class_number operation_in first_of follow_of has is_same_class
calm_always (rule.Operation n) = refl
calm_always (rule.File file.WholeFile) = refl
calm_always (rule.File file.NoMoreAliases) = refl
calm_always (rule.File file.NextAlias) = refl
calm_always (rule.File file.AliasOfMap) = refl
calm_always (rule.File file.AliasOfSet) = refl
calm_always (rule.File file.NoContent) = refl
calm_always (rule.File file.NamedContent) = refl
calm_always (rule.File file.PlainContent) = refl
calm_always (rule.File file.OnlyModule) = refl
calm_always (rule.File file.OnlyGenericModule) = refl
calm_always (rule.File file.FirstFunction) = refl
calm_always (rule.File file.NoMoreFunctions) = refl
calm_always (rule.File file.NextNamedFunction) = refl
calm_always (rule.File file.NextFunction) = refl
calm_always (rule.File file.WrittenFunction) = refl
calm_always (rule.File file.GenericFunction) = refl
calm_always (rule.Function functions.BuiltinModule) = refl
calm_always (rule.Function functions.NoSymbol) = refl
calm_always (rule.Function functions.WrittenSymbol) = refl
calm_always (rule.Function functions.FuncFunc) = refl
calm_always (rule.Function functions.NoVisibility) = refl
calm_always (rule.Function functions.WrittenVisibility) = refl
calm_always (rule.Function functions.NoFunctionArguments) = refl
calm_always (rule.Function functions.FirstFunctionArgument) = refl
calm_always (rule.Function functions.NoMoreFunctionArguments) = refl
calm_always (rule.Function functions.NextFunctionArgument) = refl
calm_always (rule.Function functions.ArgumentOfFunction) = refl
calm_always (rule.Function functions.ModuleForm) = refl
calm_always (rule.Function functions.FunctionForm) = refl
calm_always (rule.Region regions.NoMoreOperations) = refl
calm_always (rule.Region regions.WithResults) = refl
calm_always (rule.Region regions.WithoutResults) = refl
calm_always (rule.Region regions.PlainOperation) = refl
calm_always (rule.Region regions.TerminatorOperation) = refl
calm_always (rule.Region regions.TerminatorWithValues) = refl
calm_always (rule.Region regions.TerminatorLast) = refl
calm_always (rule.Region regions.TerminatorThenOperation) = refl
calm_always (rule.Region regions.ValuesAndTypes) = refl
calm_always (rule.Region regions.NamedRegion) = refl
calm_always (rule.Generic generic.GenericForm) = refl
calm_always (rule.Generic generic.WholeGeneric) = refl
calm_always (rule.Generic generic.NoProperties) = refl
calm_always (rule.Generic generic.WrittenProperties) = refl
calm_always (rule.Generic generic.NoRegions) = refl
calm_always (rule.Generic generic.WrittenRegions) = refl
calm_always (rule.Generic generic.NoMoreRegions) = refl
calm_always (rule.Generic generic.NextRegion) = refl
calm_always (rule.Generic generic.LabelledRegion) = refl
calm_always (rule.Generic generic.NoLabel) = refl
calm_always (rule.Generic generic.BlockLabel) = refl
calm_always (rule.Generic generic.NoArguments) = refl
calm_always (rule.Generic generic.FirstArgument) = refl
calm_always (rule.Generic generic.NoMoreArguments) = refl
calm_always (rule.Generic generic.NextArgument) = refl
calm_always (rule.Type types.ScalarType) = refl
calm_always (rule.Type types.BufferType) = refl
calm_always (rule.Type types.TileType) = refl
calm_always (rule.Type types.MemRefType) = refl
calm_always (rule.Type types.NoMoreSizes) = refl
calm_always (rule.Type types.NextSize) = refl
calm_always (rule.Type types.VectorType) = refl
calm_always (rule.Type types.NoMoreDims) = refl
calm_always (rule.Type types.FixedDim) = refl
calm_always (rule.Type types.ScalableDim) = refl
calm_always (rule.Type types.NoTypes) = refl
calm_always (rule.Type types.FirstType) = refl
calm_always (rule.Type types.NoMoreTypes) = refl
calm_always (rule.Type types.NextType) = refl
calm_always (rule.Type types.OneResultType) = refl
calm_always (rule.Type types.ResultTypeList) = refl
calm_always (rule.Type types.NoResultTypes) = refl
calm_always (rule.Type types.WrittenResultTypes) = refl
calm_always (rule.Type types.NoLayout) = refl
calm_always (rule.Type types.StridedLayout) = refl
calm_always (rule.Type types.NoStrides) = refl
calm_always (rule.Type types.FirstStride) = refl
calm_always (rule.Type types.NoMoreStrides) = refl
calm_always (rule.Type types.NextStride) = refl
calm_always (rule.Type types.StaticStride) = refl
calm_always (rule.Type types.DynamicStride) = refl
calm_always (rule.Type types.NoOffset) = refl
calm_always (rule.Type types.WrittenOffset) = refl
calm_always (rule.Attribute attributes.NumberAttribute) = refl
calm_always (rule.Attribute attributes.BoolAttribute) = refl
calm_always (rule.Attribute attributes.StringAttribute) = refl
calm_always (rule.Attribute attributes.SymbolAttribute) = refl
calm_always (rule.Attribute attributes.TypeAttribute) = refl
calm_always (rule.Attribute attributes.MapAttribute) = refl
calm_always (rule.Attribute attributes.SetAttribute) = refl
calm_always (rule.Attribute attributes.AliasAttribute) = refl
calm_always (rule.Attribute attributes.HashAttribute) = refl
calm_always (rule.Attribute attributes.ListAttribute) = refl
calm_always (rule.Attribute attributes.DictionaryAttribute) = refl
calm_always (rule.Attribute attributes.ArrayAttribute) = refl
calm_always (rule.Attribute attributes.DenseAttribute) = refl
calm_always (rule.Attribute attributes.NoNumberType) = refl
calm_always (rule.Attribute attributes.WrittenNumberType) = refl
calm_always (rule.Attribute attributes.NoHashWords) = refl
calm_always (rule.Attribute attributes.WrittenHashWords) = refl
calm_always (rule.Attribute attributes.NoAttributes) = refl
calm_always (rule.Attribute attributes.FirstAttribute) = refl
calm_always (rule.Attribute attributes.NoMoreAttributes) = refl
calm_always (rule.Attribute attributes.NextAttribute) = refl
calm_always (rule.Attribute attributes.NoArrayNumbers) = refl
calm_always (rule.Attribute attributes.WrittenArrayNumbers) = refl
calm_always (rule.Attribute attributes.DenseElements) = refl
calm_always (rule.Attribute attributes.NumberElement) = refl
calm_always (rule.Attribute attributes.BoolElement) = refl
calm_always (rule.Attribute attributes.ListElement) = refl
calm_always (rule.Attribute attributes.NoElements) = refl
calm_always (rule.Attribute attributes.FirstElement) = refl
calm_always (rule.Attribute attributes.NoMoreElements) = refl
calm_always (rule.Attribute attributes.NextElement) = refl
calm_always (rule.Attribute attributes.WrittenDictionary) = refl
calm_always (rule.Attribute attributes.NoEntries) = refl
calm_always (rule.Attribute attributes.FirstEntry) = refl
calm_always (rule.Attribute attributes.NoMoreEntries) = refl
calm_always (rule.Attribute attributes.NextEntry) = refl
calm_always (rule.Attribute attributes.PlainEntry) = refl
calm_always (rule.Attribute attributes.FunctionTypeEntry) = refl
calm_always (rule.Attribute attributes.UnitEntry) = refl
calm_always (rule.Attribute attributes.WrittenEntry) = refl
calm_always (rule.Attribute attributes.UnitFunctionType) = refl
calm_always (rule.Attribute attributes.WrittenFunctionType) = refl
calm_always (rule.Attribute attributes.NoFunctionType) = refl
calm_always (rule.Attribute attributes.FunctionType) = refl
calm_always (rule.Attribute attributes.NoDictionary) = refl
calm_always (rule.Attribute attributes.DictionaryHere) = refl
calm_always (rule.Attribute attributes.NoAttributesPart) = refl
calm_always (rule.Attribute attributes.AttributesPart) = refl
calm_always (rule.Map maps.WrittenMap) = refl
calm_always (rule.Map maps.WrittenSet) = refl
calm_always (rule.Map maps.DimensionNames) = refl
calm_always (rule.Map maps.NoSymbolNames) = refl
calm_always (rule.Map maps.WrittenSymbolNames) = refl
calm_always (rule.Map maps.NoWords) = refl
calm_always (rule.Map maps.FirstWord) = refl
calm_always (rule.Map maps.NoMoreWords) = refl
calm_always (rule.Map maps.NextWord) = refl
calm_always (rule.Map maps.NoExpressions) = refl
calm_always (rule.Map maps.FirstExpression) = refl
calm_always (rule.Map maps.NoMoreExpressions) = refl
calm_always (rule.Map maps.NextExpression) = refl
calm_always (rule.Map maps.NoSetRows) = refl
calm_always (rule.Map maps.FirstSetRow) = refl
calm_always (rule.Map maps.NoMoreSetRows) = refl
calm_always (rule.Map maps.NextSetRow) = refl
calm_always (rule.Map maps.RowOfSet) = refl
calm_always (rule.Map maps.AtLeastZero) = refl
calm_always (rule.Map maps.EqualToZero) = refl
calm_always (rule.Map maps.WholeExpression) = refl
calm_always (rule.Map maps.NoMoreTerms) = refl
calm_always (rule.Map maps.PlusTerm) = refl
calm_always (rule.Map maps.MinusTerm) = refl
calm_always (rule.Map maps.WholeTerm) = refl
calm_always (rule.Map maps.NoMoreFactors) = refl
calm_always (rule.Map maps.TimesFactor) = refl
calm_always (rule.Map maps.DivisionFactor) = refl
calm_always (rule.Map maps.NumberFactor) = refl
calm_always (rule.Map maps.PlainFactor) = refl
calm_always (rule.Map maps.MinusFactor) = refl
calm_always (rule.Map maps.NegativeNumber) = refl
calm_always (rule.Map maps.NegatedBase) = refl
calm_always (rule.Map maps.ParameterName) = refl
calm_always (rule.Map maps.DivisionName) = refl
calm_always (rule.Map maps.InBrackets) = refl
calm_always (rule.Value values.NamedValue) = refl
calm_always (rule.Value values.NoResultNumber) = refl
calm_always (rule.Value values.WrittenResultNumber) = refl
calm_always (rule.Value values.NoValues) = refl
calm_always (rule.Value values.FirstValue) = refl
calm_always (rule.Value values.NoMoreValues) = refl
calm_always (rule.Value values.NextValue) = refl
calm_always (rule.Value values.NoFurtherValue) = refl
calm_always (rule.Value values.FurtherValue) = refl
calm_always (rule.Value values.PlainInteger) = refl
calm_always (rule.Value values.NegativeInteger) = refl
calm_always (rule.Value values.NoIntegers) = refl
calm_always (rule.Value values.FirstInteger) = refl
calm_always (rule.Value values.NoMoreIntegers) = refl
calm_always (rule.Value values.NextInteger) = refl
calm_always (rule.Value values.ResultNames) = refl
calm_always (rule.Value values.NoMoreResults) = refl
calm_always (rule.Value values.NextResult) = refl
calm_always (rule.Value values.OneResult) = refl
calm_always (rule.Value values.CountedResults) = refl
calm_always (rule.Arith arith.BoolConstant) = refl
calm_always (rule.Arith arith.NumberConstant) = refl
calm_always (rule.Arith arith.DenseConstant) = refl
calm_always (rule.Arith arith.NoOverflow) = refl
calm_always (rule.Arith arith.WrittenOverflow) = refl
calm_always (rule.Arith arith.NoMoreOverflowFlags) = refl
calm_always (rule.Arith arith.NextOverflowFlag) = refl
calm_always (rule.Arith arith.ScalarSelected) = refl
calm_always (rule.Arith arith.BufferSelected) = refl
calm_always (rule.Arith arith.VectorThenSelected) = refl
calm_always (rule.Arith arith.OnlySelected) = refl
calm_always (rule.Arith arith.SelectedByVector) = refl
calm_always (rule.Affine affine.GreatestOf) = refl
calm_always (rule.Affine affine.PlainLowerBound) = refl
calm_always (rule.Affine affine.LeastOf) = refl
calm_always (rule.Affine affine.PlainUpperBound) = refl
calm_always (rule.Affine affine.NumberBound) = refl
calm_always (rule.Affine affine.ValueBound) = refl
calm_always (rule.Affine affine.MapBound) = refl
calm_always (rule.Affine affine.NoStep) = refl
calm_always (rule.Affine affine.WrittenStep) = refl
calm_always (rule.Affine affine.NoIterArgs) = refl
calm_always (rule.Affine affine.WrittenIterArgs) = refl
calm_always (rule.Affine affine.NoCarried) = refl
calm_always (rule.Affine affine.FirstCarried) = refl
calm_always (rule.Affine affine.NoMoreCarried) = refl
calm_always (rule.Affine affine.NextCarried) = refl
calm_always (rule.Affine affine.MapWritten) = refl
calm_always (rule.Affine affine.MapByAlias) = refl
calm_always (rule.Affine affine.SetWritten) = refl
calm_always (rule.Affine affine.SetByAlias) = refl
calm_always (rule.Affine affine.DimensionOperands) = refl
calm_always (rule.Affine affine.NoSymbolOperands) = refl
calm_always (rule.Affine affine.WrittenSymbolOperands) = refl
calm_always (rule.Affine affine.NoElse) = refl
calm_always (rule.Affine affine.WrittenElse) = refl
calm_always (rule.Subscript subscripts.NoSubscripts) = refl
calm_always (rule.Subscript subscripts.FirstSubscript) = refl
calm_always (rule.Subscript subscripts.NoMoreSubscripts) = refl
calm_always (rule.Subscript subscripts.NextSubscript) = refl
calm_always (rule.Subscript subscripts.WholeSubscript) = refl
calm_always (rule.Subscript subscripts.NoMoreSubscriptTerms) = refl
calm_always (rule.Subscript subscripts.PlusSubscriptTerm) = refl
calm_always (rule.Subscript subscripts.MinusSubscriptTerm) = refl
calm_always (rule.Subscript subscripts.WholeSubscriptTerm) = refl
calm_always (rule.Subscript subscripts.NoMoreSubscriptFactors) = refl
calm_always (rule.Subscript subscripts.TimesSubscriptFactor) = refl
calm_always (rule.Subscript subscripts.DivisionSubscriptFactor) = refl
calm_always (rule.Subscript subscripts.NumberSubscriptFactor) = refl
calm_always (rule.Subscript subscripts.PlainSubscriptFactor) = refl
calm_always (rule.Subscript subscripts.MinusSubscriptFactor) = refl
calm_always (rule.Subscript subscripts.NegativeSubscriptNumber) = refl
calm_always (rule.Subscript subscripts.NegatedSubscriptBase) = refl
calm_always (rule.Subscript subscripts.DimensionValue) = refl
calm_always (rule.Subscript subscripts.SymbolValue) = refl
calm_always (rule.Subscript subscripts.SubscriptInBrackets) = refl

no_closing : (c : Class) → bracket_of c ≡ bracket.None → bracket_of c ≡ bracket.Closes → ⊥
no_closing c e f = absurd (cc)

no_opening : (c : Class) → bracket_of c ≡ bracket.Opens → bracket_of c ≡ bracket.Closes → ⊥
no_opening c e f = absurd (cc)

calm-sign : (r : Rule) (s : Sign) → bracket_of (class.Sign s) ≡ bracket.Closes → IsTrue (is_calm r (class.Sign s))
calm-sign r sign.CloseRound e = (both _ _ (both _ _ (calm_always r)).0).0
calm-sign r sign.CloseCurly e = (both _ _ (both _ _ (calm_always r)).0).1
calm-sign r sign.CloseSquare e = (both _ _ (both _ _ (calm_always r)).1).0
calm-sign r sign.CloseAngle e = (both _ _ (both _ _ (calm_always r)).1).1
calm-sign r sign.OpenRound e = absurd (no_opening (class.Sign sign.OpenRound) refl e)
calm-sign r sign.OpenCurly e = absurd (no_opening (class.Sign sign.OpenCurly) refl e)
calm-sign r sign.OpenSquare e = absurd (no_opening (class.Sign sign.OpenSquare) refl e)
calm-sign r sign.OpenAngle e = absurd (no_opening (class.Sign sign.OpenAngle) refl e)
calm-sign r sign.Comma e = absurd (no_closing (class.Sign sign.Comma) refl e)
calm-sign r sign.Colon e = absurd (no_closing (class.Sign sign.Colon) refl e)
calm-sign r sign.Equal e = absurd (no_closing (class.Sign sign.Equal) refl e)
calm-sign r sign.Plus e = absurd (no_closing (class.Sign sign.Plus) refl e)
calm-sign r sign.Star e = absurd (no_closing (class.Sign sign.Star) refl e)
calm-sign r sign.Minus e = absurd (no_closing (class.Sign sign.Minus) refl e)
calm-sign r sign.Question e = absurd (no_closing (class.Sign sign.Question) refl e)
calm-sign r sign.Arrow e = absurd (no_closing (class.Sign sign.Arrow) refl e)
calm-sign r sign.AtLeast e = absurd (no_closing (class.Sign sign.AtLeast) refl e)
calm-sign r sign.EqualEqual e = absurd (no_closing (class.Sign sign.EqualEqual) refl e)

calm-class : (r : Rule) (c : Class) → bracket_of c ≡ bracket.Closes → IsTrue (is_calm r c)
calm-class r (class.Sign s) e = calm-sign r s e
calm-class r (class.Word w) e = absurd (no_closing (class.Word w) refl e)
calm-class r class.End e = absurd (no_closing class.End refl e)
calm-class r class.Scalar e = absurd (no_closing class.Scalar refl e)
calm-class r class.OtherWord e = absurd (no_closing class.OtherWord refl e)
calm-class r class.Zero e = absurd (no_closing class.Zero refl e)
calm-class r class.Positive e = absurd (no_closing class.Positive refl e)
calm-class r class.DimX e = absurd (no_closing class.DimX refl e)
calm-class r class.ScalX e = absurd (no_closing class.ScalX refl e)
calm-class r class.ValId e = absurd (no_closing class.ValId refl e)
calm-class r class.SymId e = absurd (no_closing class.SymId refl e)
calm-class r class.HashDigits e = absurd (no_closing class.HashDigits refl e)
calm-class r class.HashWord e = absurd (no_closing class.HashWord refl e)
calm-class r class.HashOther e = absurd (no_closing class.HashOther refl e)
calm-class r class.CaretId e = absurd (no_closing class.CaretId refl e)
calm-class r class.QuotedModule e = absurd (no_closing class.QuotedModule refl e)
calm-class r class.QuotedFunc e = absurd (no_closing class.QuotedFunc refl e)
calm-class r class.Quoted e = absurd (no_closing class.Quoted refl e)

none : (n : ℕ) → IsTrue (nat_eq n 0) → n ≡ 0
none n t = grind (arith, nat_tests)

uncounted : (b : Bool) → IsTrue (not b) → b ≡ false
uncounted true t = absurd (cc)
uncounted false t = refl

pub calm : (r : Rule) (c : Class) → bracket_of c ≡ bracket.Closes → IsTrue (starts_before (symbols_of r) (name_of r) c)
    → (need_of r ≡ 0) × (counts_sign r ≡ false)
calm r c e t =
    let parts = both _ _ (implied _ _ (calm-class r c e) t) in
    (none _ parts.0, uncounted _ parts.1)
