-- What the rows of types make of the values of their symbols. A list holds its last item first.
use Rattle.std.specs.Prelude.{List, [], ◌∷◌, ◌++◌, Option, None, reverse, Some}
use Rattle.av_tree.specs.declared.table.types.TypeRule.{TypeRule}
use Rattle.av_tree.specs.declared.table.types.TypeRule.TheVariants as types_rule
use Rattle.av_tree.specs.rows.TypeRows.{symbols_of, name_of}
use Rattle.av_tree.specs.declared.written.TypeText.TheVariants as ty
use Rattle.av_tree.specs.declared.written.SizeText.TheVariants as size
use Rattle.av_values.specs.Numbers.{spelled_number}
use Rattle.av_values.specs.Spellings.{dim_of, scalable_of, size_of}
use Rattle.av_values.specs.Sorts.{All, Of, replaced, sort_of, sorts_of}
use Rattle.av_values.specs.declared.value.Value.{Value}

abbrev pub made : (r : TypeRule) → All (sorts_of (symbols_of r)) → Of (sort_of (name_of r))
made types_rule.ScalarType (name, _) = ty.Scalar name
made types_rule.BufferType (type, _) = type
made types_rule.TileType (type, _) = type
made types_rule.MemRefType (sizes, (elem, (layout, _))) = ty.MemRef (reverse sizes) elem layout
made types_rule.NoMoreSizes _ = []
made types_rule.NextSize (token, (others, _)) = others ++ size_of token ∷ []
made types_rule.VectorType (dims, (elem, _)) = ty.Vector (reverse dims) elem
made types_rule.NoMoreDims _ = []
made types_rule.FixedDim (token, (others, _)) = others ++ dim_of token ∷ []
made types_rule.ScalableDim (token, (others, _)) = others ++ scalable_of token ∷ []
made types_rule.NoTypes _ = []
made types_rule.FirstType (type, (others, _)) = others ++ type ∷ []
made types_rule.NoMoreTypes _ = []
made types_rule.NextType (type, (others, _)) = others ++ type ∷ []
made types_rule.OneResultType (type, _) = type ∷ []
made types_rule.ResultTypeList (types, _) = types
made types_rule.NoResultTypes _ = []
made types_rule.WrittenResultTypes (types, _) = types
made types_rule.NoLayout _ = None
made types_rule.StridedLayout (strides, (offset, _)) = Some (record { strides = reverse strides; offset = offset })
made types_rule.NoStrides _ = []
made types_rule.FirstStride (stride, (others, _)) = others ++ stride ∷ []
made types_rule.NoMoreStrides _ = []
made types_rule.NextStride (stride, (others, _)) = others ++ stride ∷ []
made types_rule.StaticStride (digits, _) = size.Fixed (spelled_number digits)
made types_rule.DynamicStride _ = size.Dynamic
made types_rule.NoOffset _ = size.Fixed 0
made types_rule.WrittenOffset (offset, _) = offset

-- what a row does to a stack of values
abbrev pub by_row : TypeRule → List Value → Option (List Value)
by_row r = replaced (sorts_of (symbols_of r)) (sort_of (name_of r)) (λ values. Some (made r values))
