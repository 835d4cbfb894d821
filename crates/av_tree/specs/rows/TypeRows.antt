-- The rows of types: the symbols of each, and the name that it is a row of.
use Rattle.std.specs.Prelude.{List, [], ◌∷◌}
use Rattle.av_tree.specs.declared.table.Symbol.{Symbol}
use Rattle.av_tree.specs.declared.table.Symbol.TheVariants as symbol
use Rattle.av_tree.specs.declared.table.Name.{Name}
use Rattle.av_tree.specs.declared.table.Name.TheVariants as name
use Rattle.av_tree.specs.declared.table.types.TypeRule.{TypeRule}
use Rattle.av_tree.specs.declared.table.types.TypeRule.TheVariants as types_rule
use Rattle.av_tree.specs.declared.table.types.TypeName.TheVariants as types_name
use Rattle.av_lex.specs.declared.token.Sign.TheVariants as sign
use Rattle.av_tree.specs.declared.class.Keyword.TheVariants as key
use Rattle.av_tree.specs.declared.table.Test.TheVariants as test
use Rattle.av_tree.specs.declared.class.Class.{Class}
use Rattle.av_tree.specs.declared.class.Class.TheVariants as class
use Rattle.av_tree.specs.declared.table.Rule.{Rule}
use Rattle.av_tree.specs.declared.table.Rule.TheVariants as rule
use Rattle.av_tree.specs.declared.table.types.TypeName.{TypeName}

abbrev pub symbols_of : TypeRule → List Symbol
symbols_of types_rule.ScalarType = (symbol.Token test.Scalar) ∷ []
symbols_of types_rule.BufferType = (symbol.Rows (name.Type types_name.MemRef)) ∷ []
symbols_of types_rule.TileType = (symbol.Rows (name.Type types_name.Vector)) ∷ []
symbols_of types_rule.MemRefType = (symbol.Word key.MemRef) ∷ (symbol.Sign sign.OpenAngle) ∷ (symbol.Rows (name.Type types_name.Sizes)) ∷ (symbol.Token test.Scalar) ∷ (symbol.Rows (name.Type types_name.Layout)) ∷ (symbol.Sign sign.CloseAngle) ∷ []
symbols_of types_rule.NoMoreSizes = []
symbols_of types_rule.NextSize = (symbol.Token test.DimX) ∷ (symbol.Rows (name.Type types_name.Sizes)) ∷ []
symbols_of types_rule.VectorType = (symbol.Word key.Vector) ∷ (symbol.Sign sign.OpenAngle) ∷ (symbol.Rows (name.Type types_name.Dims)) ∷ (symbol.Token test.Scalar) ∷ (symbol.Sign sign.CloseAngle) ∷ []
symbols_of types_rule.NoMoreDims = []
symbols_of types_rule.FixedDim = (symbol.Token test.DimX) ∷ (symbol.Rows (name.Type types_name.Dims)) ∷ []
symbols_of types_rule.ScalableDim = (symbol.Token test.ScalX) ∷ (symbol.Rows (name.Type types_name.Dims)) ∷ []
symbols_of types_rule.NoTypes = []
symbols_of types_rule.FirstType = (symbol.Rows (name.Type types_name.Type)) ∷ (symbol.Rows (name.Type types_name.MoreTypes)) ∷ []
symbols_of types_rule.NoMoreTypes = []
symbols_of types_rule.NextType = (symbol.Sign sign.Comma) ∷ (symbol.Rows (name.Type types_name.Type)) ∷ (symbol.Rows (name.Type types_name.MoreTypes)) ∷ []
symbols_of types_rule.OneResultType = (symbol.Rows (name.Type types_name.Type)) ∷ []
symbols_of types_rule.ResultTypeList = (symbol.Sign sign.OpenRound) ∷ (symbol.Rows (name.Type types_name.Types)) ∷ (symbol.Sign sign.CloseRound) ∷ []
symbols_of types_rule.NoResultTypes = []
symbols_of types_rule.WrittenResultTypes = (symbol.Sign sign.Arrow) ∷ (symbol.Rows (name.Type types_name.ResultTypes)) ∷ []
symbols_of types_rule.NoLayout = []
symbols_of types_rule.StridedLayout = (symbol.Sign sign.Comma) ∷ (symbol.Word key.Strided) ∷ (symbol.Sign sign.OpenAngle) ∷ (symbol.Sign sign.OpenSquare) ∷ (symbol.Rows (name.Type types_name.Strides)) ∷ (symbol.Sign sign.CloseSquare) ∷ (symbol.Rows (name.Type types_name.OptionalOffset)) ∷ (symbol.Sign sign.CloseAngle) ∷ []
symbols_of types_rule.NoStrides = []
symbols_of types_rule.FirstStride = (symbol.Rows (name.Type types_name.Stride)) ∷ (symbol.Rows (name.Type types_name.MoreStrides)) ∷ []
symbols_of types_rule.NoMoreStrides = []
symbols_of types_rule.NextStride = (symbol.Sign sign.Comma) ∷ (symbol.Rows (name.Type types_name.Stride)) ∷ (symbol.Rows (name.Type types_name.MoreStrides)) ∷ []
symbols_of types_rule.StaticStride = (symbol.Token test.Number) ∷ []
symbols_of types_rule.DynamicStride = (symbol.Sign sign.Question) ∷ []
symbols_of types_rule.NoOffset = []
symbols_of types_rule.WrittenOffset = (symbol.Sign sign.Comma) ∷ (symbol.Word key.Offset) ∷ (symbol.Sign sign.Colon) ∷ (symbol.Rows (name.Type types_name.Stride)) ∷ []

abbrev pub name_of : TypeRule → Name
name_of types_rule.ScalarType = name.Type types_name.Type
name_of types_rule.BufferType = name.Type types_name.Type
name_of types_rule.TileType = name.Type types_name.Type
name_of types_rule.MemRefType = name.Type types_name.MemRef
name_of types_rule.NoMoreSizes = name.Type types_name.Sizes
name_of types_rule.NextSize = name.Type types_name.Sizes
name_of types_rule.VectorType = name.Type types_name.Vector
name_of types_rule.NoMoreDims = name.Type types_name.Dims
name_of types_rule.FixedDim = name.Type types_name.Dims
name_of types_rule.ScalableDim = name.Type types_name.Dims
name_of types_rule.NoTypes = name.Type types_name.Types
name_of types_rule.FirstType = name.Type types_name.Types
name_of types_rule.NoMoreTypes = name.Type types_name.MoreTypes
name_of types_rule.NextType = name.Type types_name.MoreTypes
name_of types_rule.OneResultType = name.Type types_name.ResultTypes
name_of types_rule.ResultTypeList = name.Type types_name.ResultTypes
name_of types_rule.NoResultTypes = name.Type types_name.OptionalResultTypes
name_of types_rule.WrittenResultTypes = name.Type types_name.OptionalResultTypes
name_of types_rule.NoLayout = name.Type types_name.Layout
name_of types_rule.StridedLayout = name.Type types_name.Layout
name_of types_rule.NoStrides = name.Type types_name.Strides
name_of types_rule.FirstStride = name.Type types_name.Strides
name_of types_rule.NoMoreStrides = name.Type types_name.MoreStrides
name_of types_rule.NextStride = name.Type types_name.MoreStrides
name_of types_rule.StaticStride = name.Type types_name.Stride
name_of types_rule.DynamicStride = name.Type types_name.Stride
name_of types_rule.NoOffset = name.Type types_name.OptionalOffset
name_of types_rule.WrittenOffset = name.Type types_name.OptionalOffset

-- the row of a name that can begin with a token of this class, or any of its rows where none can
abbrev pub choice_of : TypeName → Class → Rule
choice_of types_name.Type (class.Word key.MemRef) = rule.Type types_rule.BufferType
choice_of types_name.Type (class.Word key.Vector) = rule.Type types_rule.TileType
choice_of types_name.Type _ = rule.Type types_rule.ScalarType
choice_of types_name.MemRef _ = rule.Type types_rule.MemRefType
choice_of types_name.Sizes class.DimX = rule.Type types_rule.NextSize
choice_of types_name.Sizes _ = rule.Type types_rule.NoMoreSizes
choice_of types_name.Vector _ = rule.Type types_rule.VectorType
choice_of types_name.Dims class.DimX = rule.Type types_rule.FixedDim
choice_of types_name.Dims class.ScalX = rule.Type types_rule.ScalableDim
choice_of types_name.Dims _ = rule.Type types_rule.NoMoreDims
choice_of types_name.Types (class.Sign sign.CloseRound) = rule.Type types_rule.NoTypes
choice_of types_name.Types _ = rule.Type types_rule.FirstType
choice_of types_name.MoreTypes (class.Sign sign.Comma) = rule.Type types_rule.NextType
choice_of types_name.MoreTypes _ = rule.Type types_rule.NoMoreTypes
choice_of types_name.ResultTypes (class.Sign sign.OpenRound) = rule.Type types_rule.ResultTypeList
choice_of types_name.ResultTypes _ = rule.Type types_rule.OneResultType
choice_of types_name.OptionalResultTypes (class.Sign sign.Arrow) = rule.Type types_rule.WrittenResultTypes
choice_of types_name.OptionalResultTypes _ = rule.Type types_rule.NoResultTypes
choice_of types_name.Layout (class.Sign sign.Comma) = rule.Type types_rule.StridedLayout
choice_of types_name.Layout _ = rule.Type types_rule.NoLayout
choice_of types_name.Strides (class.Sign sign.CloseSquare) = rule.Type types_rule.NoStrides
choice_of types_name.Strides _ = rule.Type types_rule.FirstStride
choice_of types_name.MoreStrides (class.Sign sign.Comma) = rule.Type types_rule.NextStride
choice_of types_name.MoreStrides _ = rule.Type types_rule.NoMoreStrides
choice_of types_name.Stride (class.Sign sign.Question) = rule.Type types_rule.DynamicStride
choice_of types_name.Stride _ = rule.Type types_rule.StaticStride
choice_of types_name.OptionalOffset (class.Sign sign.Comma) = rule.Type types_rule.WrittenOffset
choice_of types_name.OptionalOffset _ = rule.Type types_rule.NoOffset
