-- Classes and rows as numbers, and which classes can come first in a name and after it.
use Rattle.std.specs.Prelude.{ℕ, ◌/◌, ◌%◌, ◌^◌, Bool, ◌&&◌, nat_eq, List, [], ◌∷◌}
use Rattle.av_lex.specs.declared.token.Sign.TheVariants as sign
use Rattle.av_tree.specs.declared.class.Class.{Class}
use Rattle.av_tree.specs.declared.class.Class.TheVariants as class
use Rattle.av_tree.specs.declared.class.Keyword.TheVariants as key
use Rattle.av_tree.specs.declared.table.Name.{Name}
use Rattle.av_tree.specs.declared.table.Name.TheVariants as name
use Rattle.av_tree.specs.declared.table.Rule.{Rule}
use Rattle.av_tree.specs.declared.table.Rule.TheVariants as rule
use Rattle.av_tree.specs.declared.table.file.FileName.TheVariants as file_name
use Rattle.av_tree.specs.declared.table.functions.FunctionName.TheVariants as functions_name
use Rattle.av_tree.specs.declared.table.regions.RegionName.TheVariants as regions_name
use Rattle.av_tree.specs.declared.table.generic.GenericName.TheVariants as generic_name
use Rattle.av_tree.specs.declared.table.types.TypeName.TheVariants as types_name
use Rattle.av_tree.specs.declared.table.attributes.AttributeName.TheVariants as attributes_name
use Rattle.av_tree.specs.declared.table.maps.MapName.TheVariants as maps_name
use Rattle.av_tree.specs.declared.table.values.ValueName.TheVariants as values_name
use Rattle.av_tree.specs.declared.table.arith.ArithName.TheVariants as arith_name
use Rattle.av_tree.specs.declared.table.affine.AffineName.TheVariants as affine_name
use Rattle.av_tree.specs.declared.table.subscripts.SubscriptName.TheVariants as subscripts_name
use Rattle.av_tree.specs.declared.table.file.FileRule.TheVariants as file
use Rattle.av_tree.specs.declared.table.functions.FunctionRule.TheVariants as functions
use Rattle.av_tree.specs.declared.table.regions.RegionRule.TheVariants as regions
use Rattle.av_tree.specs.declared.table.generic.GenericRule.TheVariants as generic
use Rattle.av_tree.specs.declared.table.types.TypeRule.TheVariants as types
use Rattle.av_tree.specs.declared.table.attributes.AttributeRule.TheVariants as attributes
use Rattle.av_tree.specs.declared.table.maps.MapRule.TheVariants as maps
use Rattle.av_tree.specs.declared.table.values.ValueRule.TheVariants as values
use Rattle.av_tree.specs.declared.table.arith.ArithRule.TheVariants as arith
use Rattle.av_tree.specs.declared.table.affine.AffineRule.TheVariants as affine
use Rattle.av_tree.specs.declared.table.subscripts.SubscriptRule.TheVariants as subscripts

-- the numbers of classes; all operations have one
unfoldable pub class_number : Class → ℕ
class_number class.End = 0
class_number (class.Sign sign.OpenRound) = 1
class_number (class.Sign sign.CloseRound) = 2
class_number (class.Sign sign.OpenCurly) = 3
class_number (class.Sign sign.CloseCurly) = 4
class_number (class.Sign sign.OpenSquare) = 5
class_number (class.Sign sign.CloseSquare) = 6
class_number (class.Sign sign.OpenAngle) = 7
class_number (class.Sign sign.CloseAngle) = 8
class_number (class.Sign sign.Comma) = 9
class_number (class.Sign sign.Colon) = 10
class_number (class.Sign sign.Equal) = 11
class_number (class.Sign sign.Plus) = 12
class_number (class.Sign sign.Star) = 13
class_number (class.Sign sign.Minus) = 14
class_number (class.Sign sign.Question) = 15
class_number (class.Sign sign.Arrow) = 16
class_number (class.Sign sign.AtLeast) = 17
class_number (class.Sign sign.EqualEqual) = 18
class_number (class.Word key.Module) = 19
class_number (class.Word key.FuncFunc) = 20
class_number (class.Word key.MemRef) = 21
class_number (class.Word key.Vector) = 22
class_number (class.Word key.Strided) = 23
class_number (class.Word key.Offset) = 24
class_number (class.Word key.AffineMap) = 25
class_number (class.Word key.AffineSet) = 26
class_number (class.Word key.Array) = 27
class_number (class.Word key.Dense) = 28
class_number (class.Word key.FunctionType) = 29
class_number (class.Word key.Symbol) = 30
class_number (class.Word key.Overflow) = 31
class_number (class.Word key.Attributes) = 32
class_number (class.Word key.To) = 33
class_number (class.Word key.Step) = 34
class_number (class.Word key.IterArgs) = 35
class_number (class.Word key.Else) = 36
class_number (class.Word key.Into) = 37
class_number (class.Word key.From) = 38
class_number (class.Word key.Min) = 39
class_number (class.Word key.Max) = 40
class_number (class.Word key.Terminator) = 41
class_number (class.Word key.Bool) = 42
class_number (class.Word key.Visibility) = 43
class_number (class.Word key.OverflowFlag) = 44
class_number (class.Word key.Division) = 45
class_number (class.Word key.Kind) = 46
class_number (class.Word key.Predicate) = 47
class_number class.Scalar = 48
class_number class.OtherWord = 49
class_number class.Zero = 50
class_number class.Positive = 51
class_number class.DimX = 52
class_number class.ScalX = 53
class_number class.ValId = 54
class_number class.SymId = 55
class_number class.HashDigits = 56
class_number class.HashWord = 57
class_number class.HashOther = 58
class_number class.CaretId = 59
class_number class.QuotedModule = 60
class_number class.QuotedFunc = 61
class_number class.Quoted = 62
class_number (class.Word (key.Operation n)) = 63

-- the operation that a class names, or 0
unfoldable pub operation_in : Class → ℕ
operation_in (class.Word (key.Operation n)) = n
operation_in _ = 0

-- the classes in the order of their numbers, with that of this operation
unfoldable pub all_classes : ℕ → List Class
all_classes n =
    class.End ∷
    (class.Sign sign.OpenRound) ∷
    (class.Sign sign.CloseRound) ∷
    (class.Sign sign.OpenCurly) ∷
    (class.Sign sign.CloseCurly) ∷
    (class.Sign sign.OpenSquare) ∷
    (class.Sign sign.CloseSquare) ∷
    (class.Sign sign.OpenAngle) ∷
    (class.Sign sign.CloseAngle) ∷
    (class.Sign sign.Comma) ∷
    (class.Sign sign.Colon) ∷
    (class.Sign sign.Equal) ∷
    (class.Sign sign.Plus) ∷
    (class.Sign sign.Star) ∷
    (class.Sign sign.Minus) ∷
    (class.Sign sign.Question) ∷
    (class.Sign sign.Arrow) ∷
    (class.Sign sign.AtLeast) ∷
    (class.Sign sign.EqualEqual) ∷
    (class.Word key.Module) ∷
    (class.Word key.FuncFunc) ∷
    (class.Word key.MemRef) ∷
    (class.Word key.Vector) ∷
    (class.Word key.Strided) ∷
    (class.Word key.Offset) ∷
    (class.Word key.AffineMap) ∷
    (class.Word key.AffineSet) ∷
    (class.Word key.Array) ∷
    (class.Word key.Dense) ∷
    (class.Word key.FunctionType) ∷
    (class.Word key.Symbol) ∷
    (class.Word key.Overflow) ∷
    (class.Word key.Attributes) ∷
    (class.Word key.To) ∷
    (class.Word key.Step) ∷
    (class.Word key.IterArgs) ∷
    (class.Word key.Else) ∷
    (class.Word key.Into) ∷
    (class.Word key.From) ∷
    (class.Word key.Min) ∷
    (class.Word key.Max) ∷
    (class.Word key.Terminator) ∷
    (class.Word key.Bool) ∷
    (class.Word key.Visibility) ∷
    (class.Word key.OverflowFlag) ∷
    (class.Word key.Division) ∷
    (class.Word key.Kind) ∷
    (class.Word key.Predicate) ∷
    class.Scalar ∷
    class.OtherWord ∷
    class.Zero ∷
    class.Positive ∷
    class.DimX ∷
    class.ScalX ∷
    class.ValId ∷
    class.SymId ∷
    class.HashDigits ∷
    class.HashWord ∷
    class.HashOther ∷
    class.CaretId ∷
    class.QuotedModule ∷
    class.QuotedFunc ∷
    class.Quoted ∷
    class.Word (key.Operation n) ∷
    []

-- the numbers of rows; those of operations have one
unfoldable pub rule_number : Rule → ℕ
rule_number (rule.File file.WholeFile) = 0
rule_number (rule.File file.NoMoreAliases) = 1
rule_number (rule.File file.NextAlias) = 2
rule_number (rule.File file.AliasOfMap) = 3
rule_number (rule.File file.AliasOfSet) = 4
rule_number (rule.File file.NoContent) = 5
rule_number (rule.File file.NamedContent) = 6
rule_number (rule.File file.PlainContent) = 7
rule_number (rule.File file.OnlyModule) = 8
rule_number (rule.File file.OnlyGenericModule) = 9
rule_number (rule.File file.FirstFunction) = 10
rule_number (rule.File file.NoMoreFunctions) = 11
rule_number (rule.File file.NextNamedFunction) = 12
rule_number (rule.File file.NextFunction) = 13
rule_number (rule.File file.WrittenFunction) = 14
rule_number (rule.File file.GenericFunction) = 15
rule_number (rule.Function functions.BuiltinModule) = 16
rule_number (rule.Function functions.NoSymbol) = 17
rule_number (rule.Function functions.WrittenSymbol) = 18
rule_number (rule.Function functions.FuncFunc) = 19
rule_number (rule.Function functions.NoVisibility) = 20
rule_number (rule.Function functions.WrittenVisibility) = 21
rule_number (rule.Function functions.NoFunctionArguments) = 22
rule_number (rule.Function functions.FirstFunctionArgument) = 23
rule_number (rule.Function functions.NoMoreFunctionArguments) = 24
rule_number (rule.Function functions.NextFunctionArgument) = 25
rule_number (rule.Function functions.ArgumentOfFunction) = 26
rule_number (rule.Function functions.ModuleForm) = 27
rule_number (rule.Function functions.FunctionForm) = 28
rule_number (rule.Region regions.NoMoreOperations) = 29
rule_number (rule.Region regions.WithResults) = 30
rule_number (rule.Region regions.WithoutResults) = 31
rule_number (rule.Region regions.PlainOperation) = 32
rule_number (rule.Region regions.TerminatorOperation) = 33
rule_number (rule.Region regions.TerminatorWithValues) = 34
rule_number (rule.Region regions.TerminatorLast) = 35
rule_number (rule.Region regions.TerminatorThenOperation) = 36
rule_number (rule.Region regions.ValuesAndTypes) = 37
rule_number (rule.Region regions.NamedRegion) = 38
rule_number (rule.Generic generic.GenericForm) = 39
rule_number (rule.Generic generic.WholeGeneric) = 40
rule_number (rule.Generic generic.NoProperties) = 41
rule_number (rule.Generic generic.WrittenProperties) = 42
rule_number (rule.Generic generic.NoRegions) = 43
rule_number (rule.Generic generic.WrittenRegions) = 44
rule_number (rule.Generic generic.NoMoreRegions) = 45
rule_number (rule.Generic generic.NextRegion) = 46
rule_number (rule.Generic generic.LabelledRegion) = 47
rule_number (rule.Generic generic.NoLabel) = 48
rule_number (rule.Generic generic.BlockLabel) = 49
rule_number (rule.Generic generic.NoArguments) = 50
rule_number (rule.Generic generic.FirstArgument) = 51
rule_number (rule.Generic generic.NoMoreArguments) = 52
rule_number (rule.Generic generic.NextArgument) = 53
rule_number (rule.Type types.ScalarType) = 54
rule_number (rule.Type types.BufferType) = 55
rule_number (rule.Type types.TileType) = 56
rule_number (rule.Type types.MemRefType) = 57
rule_number (rule.Type types.NoMoreSizes) = 58
rule_number (rule.Type types.NextSize) = 59
rule_number (rule.Type types.VectorType) = 60
rule_number (rule.Type types.NoMoreDims) = 61
rule_number (rule.Type types.FixedDim) = 62
rule_number (rule.Type types.ScalableDim) = 63
rule_number (rule.Type types.NoTypes) = 64
rule_number (rule.Type types.FirstType) = 65
rule_number (rule.Type types.NoMoreTypes) = 66
rule_number (rule.Type types.NextType) = 67
rule_number (rule.Type types.OneResultType) = 68
rule_number (rule.Type types.ResultTypeList) = 69
rule_number (rule.Type types.NoResultTypes) = 70
rule_number (rule.Type types.WrittenResultTypes) = 71
rule_number (rule.Type types.NoLayout) = 72
rule_number (rule.Type types.StridedLayout) = 73
rule_number (rule.Type types.NoStrides) = 74
rule_number (rule.Type types.FirstStride) = 75
rule_number (rule.Type types.NoMoreStrides) = 76
rule_number (rule.Type types.NextStride) = 77
rule_number (rule.Type types.StaticStride) = 78
rule_number (rule.Type types.DynamicStride) = 79
rule_number (rule.Type types.NoOffset) = 80
rule_number (rule.Type types.WrittenOffset) = 81
rule_number (rule.Attribute attributes.NumberAttribute) = 82
rule_number (rule.Attribute attributes.BoolAttribute) = 83
rule_number (rule.Attribute attributes.StringAttribute) = 84
rule_number (rule.Attribute attributes.SymbolAttribute) = 85
rule_number (rule.Attribute attributes.TypeAttribute) = 86
rule_number (rule.Attribute attributes.MapAttribute) = 87
rule_number (rule.Attribute attributes.SetAttribute) = 88
rule_number (rule.Attribute attributes.AliasAttribute) = 89
rule_number (rule.Attribute attributes.HashAttribute) = 90
rule_number (rule.Attribute attributes.ListAttribute) = 91
rule_number (rule.Attribute attributes.DictionaryAttribute) = 92
rule_number (rule.Attribute attributes.ArrayAttribute) = 93
rule_number (rule.Attribute attributes.DenseAttribute) = 94
rule_number (rule.Attribute attributes.NoNumberType) = 95
rule_number (rule.Attribute attributes.WrittenNumberType) = 96
rule_number (rule.Attribute attributes.NoHashWords) = 97
rule_number (rule.Attribute attributes.WrittenHashWords) = 98
rule_number (rule.Attribute attributes.NoAttributes) = 99
rule_number (rule.Attribute attributes.FirstAttribute) = 100
rule_number (rule.Attribute attributes.NoMoreAttributes) = 101
rule_number (rule.Attribute attributes.NextAttribute) = 102
rule_number (rule.Attribute attributes.NoArrayNumbers) = 103
rule_number (rule.Attribute attributes.WrittenArrayNumbers) = 104
rule_number (rule.Attribute attributes.DenseElements) = 105
rule_number (rule.Attribute attributes.NumberElement) = 106
rule_number (rule.Attribute attributes.BoolElement) = 107
rule_number (rule.Attribute attributes.ListElement) = 108
rule_number (rule.Attribute attributes.NoElements) = 109
rule_number (rule.Attribute attributes.FirstElement) = 110
rule_number (rule.Attribute attributes.NoMoreElements) = 111
rule_number (rule.Attribute attributes.NextElement) = 112
rule_number (rule.Attribute attributes.WrittenDictionary) = 113
rule_number (rule.Attribute attributes.NoEntries) = 114
rule_number (rule.Attribute attributes.FirstEntry) = 115
rule_number (rule.Attribute attributes.NoMoreEntries) = 116
rule_number (rule.Attribute attributes.NextEntry) = 117
rule_number (rule.Attribute attributes.PlainEntry) = 118
rule_number (rule.Attribute attributes.FunctionTypeEntry) = 119
rule_number (rule.Attribute attributes.UnitEntry) = 120
rule_number (rule.Attribute attributes.WrittenEntry) = 121
rule_number (rule.Attribute attributes.UnitFunctionType) = 122
rule_number (rule.Attribute attributes.WrittenFunctionType) = 123
rule_number (rule.Attribute attributes.NoFunctionType) = 124
rule_number (rule.Attribute attributes.FunctionType) = 125
rule_number (rule.Attribute attributes.NoDictionary) = 126
rule_number (rule.Attribute attributes.DictionaryHere) = 127
rule_number (rule.Attribute attributes.NoAttributesPart) = 128
rule_number (rule.Attribute attributes.AttributesPart) = 129
rule_number (rule.Map maps.WrittenMap) = 130
rule_number (rule.Map maps.WrittenSet) = 131
rule_number (rule.Map maps.DimensionNames) = 132
rule_number (rule.Map maps.NoSymbolNames) = 133
rule_number (rule.Map maps.WrittenSymbolNames) = 134
rule_number (rule.Map maps.NoWords) = 135
rule_number (rule.Map maps.FirstWord) = 136
rule_number (rule.Map maps.NoMoreWords) = 137
rule_number (rule.Map maps.NextWord) = 138
rule_number (rule.Map maps.NoExpressions) = 139
rule_number (rule.Map maps.FirstExpression) = 140
rule_number (rule.Map maps.NoMoreExpressions) = 141
rule_number (rule.Map maps.NextExpression) = 142
rule_number (rule.Map maps.NoSetRows) = 143
rule_number (rule.Map maps.FirstSetRow) = 144
rule_number (rule.Map maps.NoMoreSetRows) = 145
rule_number (rule.Map maps.NextSetRow) = 146
rule_number (rule.Map maps.RowOfSet) = 147
rule_number (rule.Map maps.AtLeastZero) = 148
rule_number (rule.Map maps.EqualToZero) = 149
rule_number (rule.Map maps.WholeExpression) = 150
rule_number (rule.Map maps.NoMoreTerms) = 151
rule_number (rule.Map maps.PlusTerm) = 152
rule_number (rule.Map maps.MinusTerm) = 153
rule_number (rule.Map maps.WholeTerm) = 154
rule_number (rule.Map maps.NoMoreFactors) = 155
rule_number (rule.Map maps.TimesFactor) = 156
rule_number (rule.Map maps.DivisionFactor) = 157
rule_number (rule.Map maps.NumberFactor) = 158
rule_number (rule.Map maps.PlainFactor) = 159
rule_number (rule.Map maps.MinusFactor) = 160
rule_number (rule.Map maps.NegativeNumber) = 161
rule_number (rule.Map maps.NegatedBase) = 162
rule_number (rule.Map maps.ParameterName) = 163
rule_number (rule.Map maps.DivisionName) = 164
rule_number (rule.Map maps.InBrackets) = 165
rule_number (rule.Value values.NamedValue) = 166
rule_number (rule.Value values.NoResultNumber) = 167
rule_number (rule.Value values.WrittenResultNumber) = 168
rule_number (rule.Value values.NoValues) = 169
rule_number (rule.Value values.FirstValue) = 170
rule_number (rule.Value values.NoMoreValues) = 171
rule_number (rule.Value values.NextValue) = 172
rule_number (rule.Value values.NoFurtherValue) = 173
rule_number (rule.Value values.FurtherValue) = 174
rule_number (rule.Value values.PlainInteger) = 175
rule_number (rule.Value values.NegativeInteger) = 176
rule_number (rule.Value values.NoIntegers) = 177
rule_number (rule.Value values.FirstInteger) = 178
rule_number (rule.Value values.NoMoreIntegers) = 179
rule_number (rule.Value values.NextInteger) = 180
rule_number (rule.Value values.ResultNames) = 181
rule_number (rule.Value values.NoMoreResults) = 182
rule_number (rule.Value values.NextResult) = 183
rule_number (rule.Value values.OneResult) = 184
rule_number (rule.Value values.CountedResults) = 185
rule_number (rule.Arith arith.BoolConstant) = 186
rule_number (rule.Arith arith.NumberConstant) = 187
rule_number (rule.Arith arith.DenseConstant) = 188
rule_number (rule.Arith arith.NoOverflow) = 189
rule_number (rule.Arith arith.WrittenOverflow) = 190
rule_number (rule.Arith arith.NoMoreOverflowFlags) = 191
rule_number (rule.Arith arith.NextOverflowFlag) = 192
rule_number (rule.Arith arith.ScalarSelected) = 193
rule_number (rule.Arith arith.BufferSelected) = 194
rule_number (rule.Arith arith.VectorThenSelected) = 195
rule_number (rule.Arith arith.OnlySelected) = 196
rule_number (rule.Arith arith.SelectedByVector) = 197
rule_number (rule.Affine affine.GreatestOf) = 198
rule_number (rule.Affine affine.PlainLowerBound) = 199
rule_number (rule.Affine affine.LeastOf) = 200
rule_number (rule.Affine affine.PlainUpperBound) = 201
rule_number (rule.Affine affine.NumberBound) = 202
rule_number (rule.Affine affine.ValueBound) = 203
rule_number (rule.Affine affine.MapBound) = 204
rule_number (rule.Affine affine.NoStep) = 205
rule_number (rule.Affine affine.WrittenStep) = 206
rule_number (rule.Affine affine.NoIterArgs) = 207
rule_number (rule.Affine affine.WrittenIterArgs) = 208
rule_number (rule.Affine affine.NoCarried) = 209
rule_number (rule.Affine affine.FirstCarried) = 210
rule_number (rule.Affine affine.NoMoreCarried) = 211
rule_number (rule.Affine affine.NextCarried) = 212
rule_number (rule.Affine affine.MapWritten) = 213
rule_number (rule.Affine affine.MapByAlias) = 214
rule_number (rule.Affine affine.SetWritten) = 215
rule_number (rule.Affine affine.SetByAlias) = 216
rule_number (rule.Affine affine.DimensionOperands) = 217
rule_number (rule.Affine affine.NoSymbolOperands) = 218
rule_number (rule.Affine affine.WrittenSymbolOperands) = 219
rule_number (rule.Affine affine.NoElse) = 220
rule_number (rule.Affine affine.WrittenElse) = 221
rule_number (rule.Subscript subscripts.NoSubscripts) = 222
rule_number (rule.Subscript subscripts.FirstSubscript) = 223
rule_number (rule.Subscript subscripts.NoMoreSubscripts) = 224
rule_number (rule.Subscript subscripts.NextSubscript) = 225
rule_number (rule.Subscript subscripts.WholeSubscript) = 226
rule_number (rule.Subscript subscripts.NoMoreSubscriptTerms) = 227
rule_number (rule.Subscript subscripts.PlusSubscriptTerm) = 228
rule_number (rule.Subscript subscripts.MinusSubscriptTerm) = 229
rule_number (rule.Subscript subscripts.WholeSubscriptTerm) = 230
rule_number (rule.Subscript subscripts.NoMoreSubscriptFactors) = 231
rule_number (rule.Subscript subscripts.TimesSubscriptFactor) = 232
rule_number (rule.Subscript subscripts.DivisionSubscriptFactor) = 233
rule_number (rule.Subscript subscripts.NumberSubscriptFactor) = 234
rule_number (rule.Subscript subscripts.PlainSubscriptFactor) = 235
rule_number (rule.Subscript subscripts.MinusSubscriptFactor) = 236
rule_number (rule.Subscript subscripts.NegativeSubscriptNumber) = 237
rule_number (rule.Subscript subscripts.NegatedSubscriptBase) = 238
rule_number (rule.Subscript subscripts.DimensionValue) = 239
rule_number (rule.Subscript subscripts.SymbolValue) = 240
rule_number (rule.Subscript subscripts.SubscriptInBrackets) = 241
rule_number (rule.Operation n) = 242

-- the operation whose row it is, or 0
unfoldable pub operation_of : Rule → ℕ
operation_of (rule.Operation n) = n
operation_of _ = 0

-- the rows in the order of their numbers, with that of this operation
unfoldable pub all_rules : ℕ → List Rule
all_rules n =
    rule.File file.WholeFile ∷
    rule.File file.NoMoreAliases ∷
    rule.File file.NextAlias ∷
    rule.File file.AliasOfMap ∷
    rule.File file.AliasOfSet ∷
    rule.File file.NoContent ∷
    rule.File file.NamedContent ∷
    rule.File file.PlainContent ∷
    rule.File file.OnlyModule ∷
    rule.File file.OnlyGenericModule ∷
    rule.File file.FirstFunction ∷
    rule.File file.NoMoreFunctions ∷
    rule.File file.NextNamedFunction ∷
    rule.File file.NextFunction ∷
    rule.File file.WrittenFunction ∷
    rule.File file.GenericFunction ∷
    rule.Function functions.BuiltinModule ∷
    rule.Function functions.NoSymbol ∷
    rule.Function functions.WrittenSymbol ∷
    rule.Function functions.FuncFunc ∷
    rule.Function functions.NoVisibility ∷
    rule.Function functions.WrittenVisibility ∷
    rule.Function functions.NoFunctionArguments ∷
    rule.Function functions.FirstFunctionArgument ∷
    rule.Function functions.NoMoreFunctionArguments ∷
    rule.Function functions.NextFunctionArgument ∷
    rule.Function functions.ArgumentOfFunction ∷
    rule.Function functions.ModuleForm ∷
    rule.Function functions.FunctionForm ∷
    rule.Region regions.NoMoreOperations ∷
    rule.Region regions.WithResults ∷
    rule.Region regions.WithoutResults ∷
    rule.Region regions.PlainOperation ∷
    rule.Region regions.TerminatorOperation ∷
    rule.Region regions.TerminatorWithValues ∷
    rule.Region regions.TerminatorLast ∷
    rule.Region regions.TerminatorThenOperation ∷
    rule.Region regions.ValuesAndTypes ∷
    rule.Region regions.NamedRegion ∷
    rule.Generic generic.GenericForm ∷
    rule.Generic generic.WholeGeneric ∷
    rule.Generic generic.NoProperties ∷
    rule.Generic generic.WrittenProperties ∷
    rule.Generic generic.NoRegions ∷
    rule.Generic generic.WrittenRegions ∷
    rule.Generic generic.NoMoreRegions ∷
    rule.Generic generic.NextRegion ∷
    rule.Generic generic.LabelledRegion ∷
    rule.Generic generic.NoLabel ∷
    rule.Generic generic.BlockLabel ∷
    rule.Generic generic.NoArguments ∷
    rule.Generic generic.FirstArgument ∷
    rule.Generic generic.NoMoreArguments ∷
    rule.Generic generic.NextArgument ∷
    rule.Type types.ScalarType ∷
    rule.Type types.BufferType ∷
    rule.Type types.TileType ∷
    rule.Type types.MemRefType ∷
    rule.Type types.NoMoreSizes ∷
    rule.Type types.NextSize ∷
    rule.Type types.VectorType ∷
    rule.Type types.NoMoreDims ∷
    rule.Type types.FixedDim ∷
    rule.Type types.ScalableDim ∷
    rule.Type types.NoTypes ∷
    rule.Type types.FirstType ∷
    rule.Type types.NoMoreTypes ∷
    rule.Type types.NextType ∷
    rule.Type types.OneResultType ∷
    rule.Type types.ResultTypeList ∷
    rule.Type types.NoResultTypes ∷
    rule.Type types.WrittenResultTypes ∷
    rule.Type types.NoLayout ∷
    rule.Type types.StridedLayout ∷
    rule.Type types.NoStrides ∷
    rule.Type types.FirstStride ∷
    rule.Type types.NoMoreStrides ∷
    rule.Type types.NextStride ∷
    rule.Type types.StaticStride ∷
    rule.Type types.DynamicStride ∷
    rule.Type types.NoOffset ∷
    rule.Type types.WrittenOffset ∷
    rule.Attribute attributes.NumberAttribute ∷
    rule.Attribute attributes.BoolAttribute ∷
    rule.Attribute attributes.StringAttribute ∷
    rule.Attribute attributes.SymbolAttribute ∷
    rule.Attribute attributes.TypeAttribute ∷
    rule.Attribute attributes.MapAttribute ∷
    rule.Attribute attributes.SetAttribute ∷
    rule.Attribute attributes.AliasAttribute ∷
    rule.Attribute attributes.HashAttribute ∷
    rule.Attribute attributes.ListAttribute ∷
    rule.Attribute attributes.DictionaryAttribute ∷
    rule.Attribute attributes.ArrayAttribute ∷
    rule.Attribute attributes.DenseAttribute ∷
    rule.Attribute attributes.NoNumberType ∷
    rule.Attribute attributes.WrittenNumberType ∷
    rule.Attribute attributes.NoHashWords ∷
    rule.Attribute attributes.WrittenHashWords ∷
    rule.Attribute attributes.NoAttributes ∷
    rule.Attribute attributes.FirstAttribute ∷
    rule.Attribute attributes.NoMoreAttributes ∷
    rule.Attribute attributes.NextAttribute ∷
    rule.Attribute attributes.NoArrayNumbers ∷
    rule.Attribute attributes.WrittenArrayNumbers ∷
    rule.Attribute attributes.DenseElements ∷
    rule.Attribute attributes.NumberElement ∷
    rule.Attribute attributes.BoolElement ∷
    rule.Attribute attributes.ListElement ∷
    rule.Attribute attributes.NoElements ∷
    rule.Attribute attributes.FirstElement ∷
    rule.Attribute attributes.NoMoreElements ∷
    rule.Attribute attributes.NextElement ∷
    rule.Attribute attributes.WrittenDictionary ∷
    rule.Attribute attributes.NoEntries ∷
    rule.Attribute attributes.FirstEntry ∷
    rule.Attribute attributes.NoMoreEntries ∷
    rule.Attribute attributes.NextEntry ∷
    rule.Attribute attributes.PlainEntry ∷
    rule.Attribute attributes.FunctionTypeEntry ∷
    rule.Attribute attributes.UnitEntry ∷
    rule.Attribute attributes.WrittenEntry ∷
    rule.Attribute attributes.UnitFunctionType ∷
    rule.Attribute attributes.WrittenFunctionType ∷
    rule.Attribute attributes.NoFunctionType ∷
    rule.Attribute attributes.FunctionType ∷
    rule.Attribute attributes.NoDictionary ∷
    rule.Attribute attributes.DictionaryHere ∷
    rule.Attribute attributes.NoAttributesPart ∷
    rule.Attribute attributes.AttributesPart ∷
    rule.Map maps.WrittenMap ∷
    rule.Map maps.WrittenSet ∷
    rule.Map maps.DimensionNames ∷
    rule.Map maps.NoSymbolNames ∷
    rule.Map maps.WrittenSymbolNames ∷
    rule.Map maps.NoWords ∷
    rule.Map maps.FirstWord ∷
    rule.Map maps.NoMoreWords ∷
    rule.Map maps.NextWord ∷
    rule.Map maps.NoExpressions ∷
    rule.Map maps.FirstExpression ∷
    rule.Map maps.NoMoreExpressions ∷
    rule.Map maps.NextExpression ∷
    rule.Map maps.NoSetRows ∷
    rule.Map maps.FirstSetRow ∷
    rule.Map maps.NoMoreSetRows ∷
    rule.Map maps.NextSetRow ∷
    rule.Map maps.RowOfSet ∷
    rule.Map maps.AtLeastZero ∷
    rule.Map maps.EqualToZero ∷
    rule.Map maps.WholeExpression ∷
    rule.Map maps.NoMoreTerms ∷
    rule.Map maps.PlusTerm ∷
    rule.Map maps.MinusTerm ∷
    rule.Map maps.WholeTerm ∷
    rule.Map maps.NoMoreFactors ∷
    rule.Map maps.TimesFactor ∷
    rule.Map maps.DivisionFactor ∷
    rule.Map maps.NumberFactor ∷
    rule.Map maps.PlainFactor ∷
    rule.Map maps.MinusFactor ∷
    rule.Map maps.NegativeNumber ∷
    rule.Map maps.NegatedBase ∷
    rule.Map maps.ParameterName ∷
    rule.Map maps.DivisionName ∷
    rule.Map maps.InBrackets ∷
    rule.Value values.NamedValue ∷
    rule.Value values.NoResultNumber ∷
    rule.Value values.WrittenResultNumber ∷
    rule.Value values.NoValues ∷
    rule.Value values.FirstValue ∷
    rule.Value values.NoMoreValues ∷
    rule.Value values.NextValue ∷
    rule.Value values.NoFurtherValue ∷
    rule.Value values.FurtherValue ∷
    rule.Value values.PlainInteger ∷
    rule.Value values.NegativeInteger ∷
    rule.Value values.NoIntegers ∷
    rule.Value values.FirstInteger ∷
    rule.Value values.NoMoreIntegers ∷
    rule.Value values.NextInteger ∷
    rule.Value values.ResultNames ∷
    rule.Value values.NoMoreResults ∷
    rule.Value values.NextResult ∷
    rule.Value values.OneResult ∷
    rule.Value values.CountedResults ∷
    rule.Arith arith.BoolConstant ∷
    rule.Arith arith.NumberConstant ∷
    rule.Arith arith.DenseConstant ∷
    rule.Arith arith.NoOverflow ∷
    rule.Arith arith.WrittenOverflow ∷
    rule.Arith arith.NoMoreOverflowFlags ∷
    rule.Arith arith.NextOverflowFlag ∷
    rule.Arith arith.ScalarSelected ∷
    rule.Arith arith.BufferSelected ∷
    rule.Arith arith.VectorThenSelected ∷
    rule.Arith arith.OnlySelected ∷
    rule.Arith arith.SelectedByVector ∷
    rule.Affine affine.GreatestOf ∷
    rule.Affine affine.PlainLowerBound ∷
    rule.Affine affine.LeastOf ∷
    rule.Affine affine.PlainUpperBound ∷
    rule.Affine affine.NumberBound ∷
    rule.Affine affine.ValueBound ∷
    rule.Affine affine.MapBound ∷
    rule.Affine affine.NoStep ∷
    rule.Affine affine.WrittenStep ∷
    rule.Affine affine.NoIterArgs ∷
    rule.Affine affine.WrittenIterArgs ∷
    rule.Affine affine.NoCarried ∷
    rule.Affine affine.FirstCarried ∷
    rule.Affine affine.NoMoreCarried ∷
    rule.Affine affine.NextCarried ∷
    rule.Affine affine.MapWritten ∷
    rule.Affine affine.MapByAlias ∷
    rule.Affine affine.SetWritten ∷
    rule.Affine affine.SetByAlias ∷
    rule.Affine affine.DimensionOperands ∷
    rule.Affine affine.NoSymbolOperands ∷
    rule.Affine affine.WrittenSymbolOperands ∷
    rule.Affine affine.NoElse ∷
    rule.Affine affine.WrittenElse ∷
    rule.Subscript subscripts.NoSubscripts ∷
    rule.Subscript subscripts.FirstSubscript ∷
    rule.Subscript subscripts.NoMoreSubscripts ∷
    rule.Subscript subscripts.NextSubscript ∷
    rule.Subscript subscripts.WholeSubscript ∷
    rule.Subscript subscripts.NoMoreSubscriptTerms ∷
    rule.Subscript subscripts.PlusSubscriptTerm ∷
    rule.Subscript subscripts.MinusSubscriptTerm ∷
    rule.Subscript subscripts.WholeSubscriptTerm ∷
    rule.Subscript subscripts.NoMoreSubscriptFactors ∷
    rule.Subscript subscripts.TimesSubscriptFactor ∷
    rule.Subscript subscripts.DivisionSubscriptFactor ∷
    rule.Subscript subscripts.NumberSubscriptFactor ∷
    rule.Subscript subscripts.PlainSubscriptFactor ∷
    rule.Subscript subscripts.MinusSubscriptFactor ∷
    rule.Subscript subscripts.NegativeSubscriptNumber ∷
    rule.Subscript subscripts.NegatedSubscriptBase ∷
    rule.Subscript subscripts.DimensionValue ∷
    rule.Subscript subscripts.SymbolValue ∷
    rule.Subscript subscripts.SubscriptInBrackets ∷
    rule.Operation n ∷
    []

-- the classes that can come first in a name, as bits
unfoldable pub first_of : Name → ℕ
first_of (name.File file_name.File) = 3981182070597091328
first_of (name.File file_name.Aliases) = 504403158265495552
first_of (name.File file_name.MapOrSet) = 100663296
first_of (name.File file_name.Content) = 3476778912331595776
first_of (name.File file_name.TopLevel) = 3458764513822113792
first_of (name.File file_name.MoreFunctions) = 2323857407724224512
first_of (name.File file_name.Function) = 2305843009214742528
first_of (name.Function functions_name.Module) = 524288
first_of (name.Function functions_name.OptionalSymbol) = 36028797018963968
first_of (name.Function functions_name.NamedFunction) = 1048576
first_of (name.Function functions_name.OptionalVisibility) = 8796093022208
first_of (name.Function functions_name.FunctionArguments) = 18014398509481984
first_of (name.Function functions_name.MoreFunctionArguments) = 512
first_of (name.Function functions_name.FunctionArgument) = 18014398509481984
first_of (name.Function functions_name.Form) = 17293822569104277504
first_of (name.Region regions_name.Operations) = 17311839166637015040
first_of (name.Region regions_name.Operation) = 17293824768127533056
first_of (name.Region regions_name.AfterTerminator) = 17311839166637015040
first_of (name.Region regions_name.TypedValues) = 18014398509481984
first_of (name.Region regions_name.Region) = 8
first_of (name.Generic generic_name.GenericParts) = 2
first_of (name.Generic generic_name.Properties) = 128
first_of (name.Generic generic_name.Regions) = 2
first_of (name.Generic generic_name.MoreRegions) = 512
first_of (name.Generic generic_name.GenericRegion) = 8
first_of (name.Generic generic_name.Label) = 576460752303423488
first_of (name.Generic generic_name.Arguments) = 18014398509481984
first_of (name.Generic generic_name.MoreArguments) = 512
first_of (name.Type types_name.Type) = 281474983002112
first_of (name.Type types_name.MemRef) = 2097152
first_of (name.Type types_name.Sizes) = 4503599627370496
first_of (name.Type types_name.Vector) = 4194304
first_of (name.Type types_name.Dims) = 13510798882111488
first_of (name.Type types_name.Types) = 281474983002112
first_of (name.Type types_name.MoreTypes) = 512
first_of (name.Type types_name.ResultTypes) = 281474983002114
first_of (name.Type types_name.OptionalResultTypes) = 65536
first_of (name.Type types_name.Layout) = 512
first_of (name.Type types_name.Strides) = 3377699720560640
first_of (name.Type types_name.MoreStrides) = 512
first_of (name.Type types_name.Stride) = 3377699720560640
first_of (name.Type types_name.OptionalOffset) = 512
first_of (name.Attribute attributes_name.Attribute) = 8614546060785762344
first_of (name.Attribute attributes_name.NumberType) = 1024
first_of (name.Attribute attributes_name.HashWords) = 128
first_of (name.Attribute attributes_name.Attributes) = 8614546060785762344
first_of (name.Attribute attributes_name.MoreAttributes) = 512
first_of (name.Attribute attributes_name.ArrayNumbers) = 1024
first_of (name.Attribute attributes_name.Dense) = 268435456
first_of (name.Attribute attributes_name.Element) = 3382097767055392
first_of (name.Attribute attributes_name.Elements) = 3382097767055392
first_of (name.Attribute attributes_name.MoreElements) = 512
first_of (name.Attribute attributes_name.Dictionary) = 8
first_of (name.Attribute attributes_name.Entries) = 9224497936761094144
first_of (name.Attribute attributes_name.MoreEntries) = 512
first_of (name.Attribute attributes_name.Entry) = 9224497936761094144
first_of (name.Attribute attributes_name.EntryValue) = 2048
first_of (name.Attribute attributes_name.FunctionTypeValue) = 2048
first_of (name.Attribute attributes_name.AttributeOrFunctionType) = 8614546060785762346
first_of (name.Attribute attributes_name.OptionalDictionary) = 8
first_of (name.Attribute attributes_name.OptionalAttributes) = 4294967296
first_of (name.Map maps_name.AffineMap) = 33554432
first_of (name.Map maps_name.AffineSet) = 67108864
first_of (name.Map maps_name.Parameters) = 2
first_of (name.Map maps_name.SymbolNames) = 32
first_of (name.Map maps_name.Words) = 9224497936761094144
first_of (name.Map maps_name.MoreWords) = 512
first_of (name.Map maps_name.Expressions) = 9227875636481638402
first_of (name.Map maps_name.MoreExpressions) = 512
first_of (name.Map maps_name.SetRows) = 9227875636481638402
first_of (name.Map maps_name.MoreSetRows) = 512
first_of (name.Map maps_name.SetRow) = 9227875636481638402
first_of (name.Map maps_name.RightSide) = 393216
first_of (name.Map maps_name.Expression) = 9227875636481638402
first_of (name.Map maps_name.Sum) = 20480
first_of (name.Map maps_name.Term) = 9227875636481638402
first_of (name.Map maps_name.Product) = 35184372097024
first_of (name.Map maps_name.Factor) = 9227875636481638402
first_of (name.Map maps_name.Negated) = 9227875636481622018
first_of (name.Map maps_name.Base) = 9224497936761094146
first_of (name.Value values_name.Value) = 18014398509481984
first_of (name.Value values_name.ResultNumber) = 72057594037927936
first_of (name.Value values_name.Values) = 18014398509481984
first_of (name.Value values_name.MoreValues) = 512
first_of (name.Value values_name.OptionalValue) = 512
first_of (name.Value values_name.Integer) = 3377699720544256
first_of (name.Value values_name.Integers) = 3377699720544256
first_of (name.Value values_name.MoreIntegers) = 512
first_of (name.Value values_name.Results) = 18014398509481984
first_of (name.Value values_name.MoreResults) = 512
first_of (name.Value values_name.ResultCount) = 1024
first_of (name.Arith arith_name.Constant) = 3382098035490816
first_of (name.Arith arith_name.OptionalOverflow) = 2147483648
first_of (name.Arith arith_name.MoreOverflowFlags) = 512
first_of (name.Arith arith_name.SelectedTypes) = 281474983002112
first_of (name.Arith arith_name.AfterVector) = 512
first_of (name.Affine affine_name.LowerBound) = 525796356040704000
first_of (name.Affine affine_name.UpperBound) = 525795806284890112
first_of (name.Affine affine_name.Bound) = 525795256529076224
first_of (name.Affine affine_name.OptionalStep) = 17179869184
first_of (name.Affine affine_name.OptionalIterArgs) = 34359738368
first_of (name.Affine affine_name.Carried) = 18014398509481988
first_of (name.Affine affine_name.MoreCarried) = 516
first_of (name.Affine affine_name.MapUse) = 504403158299049984
first_of (name.Affine affine_name.SetUse) = 504403158332604416
first_of (name.Affine affine_name.MapOperands) = 2
first_of (name.Affine affine_name.SymbolOperands) = 32
first_of (name.Affine affine_name.OptionalElse) = 68719476736
first_of (name.Subscript subscripts_name.Subscripts) = 21392099303768066
first_of (name.Subscript subscripts_name.MoreSubscripts) = 512
first_of (name.Subscript subscripts_name.Subscript) = 21392099303768066
first_of (name.Subscript subscripts_name.SubscriptSum) = 20480
first_of (name.Subscript subscripts_name.SubscriptTerm) = 21392099303768066
first_of (name.Subscript subscripts_name.SubscriptProduct) = 35184372097024
first_of (name.Subscript subscripts_name.SubscriptFactor) = 21392099303768066
first_of (name.Subscript subscripts_name.NegatedSubscript) = 21392099303751682
first_of (name.Subscript subscripts_name.SubscriptBase) = 18014399583223810

-- the classes that can come after a name, as bits
unfoldable pub follow_of : Name → ℕ
follow_of (name.File file_name.File) = 1
follow_of (name.File file_name.Aliases) = 3476778912331595777
follow_of (name.File file_name.MapOrSet) = 3981182070597091329
follow_of (name.File file_name.Content) = 1
follow_of (name.File file_name.TopLevel) = 1
follow_of (name.File file_name.MoreFunctions) = 1
follow_of (name.File file_name.Function) = 2323857407724224513
follow_of (name.Function functions_name.Module) = 17311839166637015057
follow_of (name.Function functions_name.OptionalSymbol) = 4294967304
follow_of (name.Function functions_name.NamedFunction) = 17311839166637015057
follow_of (name.Function functions_name.OptionalVisibility) = 36028797018963968
follow_of (name.Function functions_name.FunctionArguments) = 4
follow_of (name.Function functions_name.MoreFunctionArguments) = 4
follow_of (name.Function functions_name.FunctionArgument) = 516
follow_of (name.Function functions_name.Form) = 17311839166637015056
follow_of (name.Region regions_name.Operations) = 16
follow_of (name.Region regions_name.Operation) = 16
follow_of (name.Region regions_name.AfterTerminator) = 16
follow_of (name.Region regions_name.TypedValues) = 17311839166637015056
follow_of (name.Region regions_name.Region) = 17311839235356491801
follow_of (name.Generic generic_name.GenericParts) = 17311839166637015057
follow_of (name.Generic generic_name.Properties) = 1034
follow_of (name.Generic generic_name.Regions) = 1032
follow_of (name.Generic generic_name.MoreRegions) = 4
follow_of (name.Generic generic_name.GenericRegion) = 516
follow_of (name.Generic generic_name.Label) = 17311839166637015056
follow_of (name.Generic generic_name.Arguments) = 4
follow_of (name.Generic generic_name.MoreArguments) = 4
follow_of (name.Type types_name.Type) = 17311839591838779229
follow_of (name.Type types_name.MemRef) = 17311839591838779229
follow_of (name.Type types_name.Sizes) = 281474976710656
follow_of (name.Type types_name.Vector) = 17311839591838779229
follow_of (name.Type types_name.Dims) = 281474976710656
follow_of (name.Type types_name.Types) = 4
follow_of (name.Type types_name.MoreTypes) = 17311839166637015060
follow_of (name.Type types_name.ResultTypes) = 17311839170931982873
follow_of (name.Type types_name.OptionalResultTypes) = 4294967304
follow_of (name.Type types_name.Layout) = 256
follow_of (name.Type types_name.Strides) = 64
follow_of (name.Type types_name.MoreStrides) = 64
follow_of (name.Type types_name.Stride) = 832
follow_of (name.Type types_name.OptionalOffset) = 256
follow_of (name.Attribute attributes_name.Attribute) = 592
follow_of (name.Attribute attributes_name.NumberType) = 592
follow_of (name.Attribute attributes_name.HashWords) = 592
follow_of (name.Attribute attributes_name.Attributes) = 64
follow_of (name.Attribute attributes_name.MoreAttributes) = 64
follow_of (name.Attribute attributes_name.ArrayNumbers) = 256
follow_of (name.Attribute attributes_name.Dense) = 17311839166637015632
follow_of (name.Attribute attributes_name.Element) = 832
follow_of (name.Attribute attributes_name.Elements) = 64
follow_of (name.Attribute attributes_name.MoreElements) = 64
follow_of (name.Attribute attributes_name.Dictionary) = 17311839166637016924
follow_of (name.Attribute attributes_name.Entries) = 16
follow_of (name.Attribute attributes_name.MoreEntries) = 16
follow_of (name.Attribute attributes_name.Entry) = 528
follow_of (name.Attribute attributes_name.EntryValue) = 528
follow_of (name.Attribute attributes_name.FunctionTypeValue) = 528
follow_of (name.Attribute attributes_name.AttributeOrFunctionType) = 528
follow_of (name.Attribute attributes_name.OptionalDictionary) = 17311839166637016596
follow_of (name.Attribute attributes_name.OptionalAttributes) = 8
follow_of (name.Map maps_name.AffineMap) = 3981182070597091923
follow_of (name.Map maps_name.AffineSet) = 3981182070597091923
follow_of (name.Map maps_name.Parameters) = 66560
follow_of (name.Map maps_name.SymbolNames) = 66560
follow_of (name.Map maps_name.Words) = 324
follow_of (name.Map maps_name.MoreWords) = 324
follow_of (name.Map maps_name.Expressions) = 4
follow_of (name.Map maps_name.MoreExpressions) = 4
follow_of (name.Map maps_name.SetRows) = 4
follow_of (name.Map maps_name.MoreSetRows) = 4
follow_of (name.Map maps_name.SetRow) = 516
follow_of (name.Map maps_name.RightSide) = 516
follow_of (name.Map maps_name.Expression) = 393732
follow_of (name.Map maps_name.Sum) = 393732
follow_of (name.Map maps_name.Term) = 414212
follow_of (name.Map maps_name.Product) = 414212
follow_of (name.Map maps_name.Factor) = 35184372511236
follow_of (name.Map maps_name.Negated) = 35184372511236
follow_of (name.Map maps_name.Base) = 35184372511236
follow_of (name.Value values_name.Value) = 35246649144940
follow_of (name.Value values_name.ResultNumber) = 35246649144940
follow_of (name.Value values_name.Values) = 68
follow_of (name.Value values_name.MoreValues) = 1092
follow_of (name.Value values_name.OptionalValue) = 1024
follow_of (name.Value values_name.Integer) = 60129544024
follow_of (name.Value values_name.Integers) = 64
follow_of (name.Value values_name.MoreIntegers) = 320
follow_of (name.Value values_name.Results) = 17293824768127533056
follow_of (name.Value values_name.MoreResults) = 2048
follow_of (name.Value values_name.ResultCount) = 2560
follow_of (name.Arith arith_name.Constant) = 17311839166637015056
follow_of (name.Arith arith_name.OptionalOverflow) = 1024
follow_of (name.Arith arith_name.MoreOverflowFlags) = 256
follow_of (name.Arith arith_name.SelectedTypes) = 17311839166637015056
follow_of (name.Arith arith_name.AfterVector) = 17311839166637015056
follow_of (name.Affine affine_name.LowerBound) = 8589934592
follow_of (name.Affine affine_name.UpperBound) = 51539607560
follow_of (name.Affine affine_name.Bound) = 60129542152
follow_of (name.Affine affine_name.OptionalStep) = 34359738376
follow_of (name.Affine affine_name.OptionalIterArgs) = 8
follow_of (name.Affine affine_name.Carried) = 4
follow_of (name.Affine affine_name.MoreCarried) = 281474983002112
follow_of (name.Affine affine_name.MapUse) = 17311839226766557208
follow_of (name.Affine affine_name.SetUse) = 65544
follow_of (name.Affine affine_name.MapOperands) = 17311839226766622744
follow_of (name.Affine affine_name.SymbolOperands) = 17311839226766622744
follow_of (name.Affine affine_name.OptionalElse) = 17311839166637015056
follow_of (name.Subscript subscripts_name.Subscripts) = 64
follow_of (name.Subscript subscripts_name.MoreSubscripts) = 64
follow_of (name.Subscript subscripts_name.Subscript) = 576
follow_of (name.Subscript subscripts_name.SubscriptSum) = 580
follow_of (name.Subscript subscripts_name.SubscriptTerm) = 21060
follow_of (name.Subscript subscripts_name.SubscriptProduct) = 21060
follow_of (name.Subscript subscripts_name.SubscriptFactor) = 35184372118084
follow_of (name.Subscript subscripts_name.NegatedSubscript) = 35184372118084
follow_of (name.Subscript subscripts_name.SubscriptBase) = 35184372118084

-- whether a class is among those of a number's bits
unfoldable pub has : ℕ → Class → Bool
has set c = nat_eq ((set / 2 ^ class_number c) % 2) 1

unfoldable pub is_same_class : Class → Class → Bool
is_same_class a b = nat_eq (class_number a) (class_number b) && nat_eq (operation_in a) (operation_in b)
