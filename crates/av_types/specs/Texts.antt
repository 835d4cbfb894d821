-- What is asked of a type as it is written: whether there is such a type, its limits, and where its size may be scalable.
use Rattle.std.specs.Prelude.{ℕ, ◌-◌, ◌^◌, nat_le, nat_lt, Bool, true, false, not, ◌&&◌, if◌then◌else◌, List, length, map, take, codes, Option, Some, None, is_some, is_none}
use Rattle.std.specs.List.{list_all, list_any}
use Rattle.std.specs.Str.{bytes_eq}
use Rattle.av_bits.specs.declared.types.Width.TheVariants.{W1, W8, W16, W32, W64}
use Rattle.av_ir.specs.declared.ty.Elem.{Elem}
use Rattle.av_ir.specs.declared.ty.Elem.TheVariants.{Int, Index}
use Rattle.av_shapes.specs.Shape.{product}
use Rattle.av_tree.specs.declared.written.DimText.{DimText}
use Rattle.av_tree.specs.declared.written.DimText.TheVariants as dim
use Rattle.av_tree.specs.declared.written.SizeText.{SizeText}
use Rattle.av_tree.specs.declared.written.SizeText.TheVariants.{Fixed, Dynamic}
use Rattle.av_tree.specs.declared.written.TypeText.{TypeText, Scalar, MemRef, Vector}

-- the element type of a name
abbrev pub elem_of : List ℕ → Option Elem
elem_of name =
    if bytes_eq name (codes "index") then Some Index
    else (if bytes_eq name (codes "i1") then Some (Int W1)
    else (if bytes_eq name (codes "i8") then Some (Int W8)
    else (if bytes_eq name (codes "i16") then Some (Int W16)
    else (if bytes_eq name (codes "i32") then Some (Int W32)
    else (if bytes_eq name (codes "i64") then Some (Int W64)
    else None)))))

-- ---- sizes
-- a dimension of a vector counts at least one
abbrev pub is_positive : DimText → Bool
is_positive (dim.Fixed n) = nat_lt 0 n
is_positive (dim.Scalable n) = nat_lt 0 n
is_positive dim.Dynamic = false

-- its size at scale 1
abbrev pub size_of : DimText → ℕ
size_of (dim.Fixed n) = n
size_of (dim.Scalable n) = n
size_of dim.Dynamic = 0

abbrev pub is_scalable : DimText → Bool
is_scalable (dim.Scalable n) = true
is_scalable _ = false

-- a size of a memref is at most 2 ^ 31 - 1, where it is a number
abbrev pub is_small : SizeText → Bool
is_small (Fixed n) = nat_lt n (2 ^ 31)
is_small Dynamic = true

-- ---- what is asked
-- some value has this type: its element type is known, and a vector has a dimension, each of at least one. A function type is that of
-- no value
abbrev pub is_type : TypeText → Bool
is_type (Scalar name) = is_some (elem_of name)
is_type (MemRef sizes name layout) = is_some (elem_of name)
is_type (Vector dims name) = nat_lt 0 (length dims) && is_some (elem_of name) && list_all is_positive dims
is_type _ = false

-- a memref has at most 8 sizes, each small, and a vector at most 3 with at most 256 lanes at scale 1. A layout isn't taken yet
abbrev pub is_within_limits : TypeText → Bool
is_within_limits (MemRef sizes name layout) = is_none layout && nat_le (length sizes) 8 && list_all is_small sizes
is_within_limits (Vector dims name) = nat_le (length dims) 3 && nat_le (product (map size_of dims)) 256
is_within_limits _ = true

-- no dimension before the last is scalable
abbrev pub scales_last : List DimText → Bool
scales_last dims = not (list_any is_scalable (take (length dims - 1) dims))

abbrev pub is_trailing : TypeText → Bool
is_trailing (Vector dims name) = scales_last dims
is_trailing _ = true

abbrev pub is_vector_text : TypeText → Bool
is_vector_text (Vector dims name) = true
is_vector_text _ = false
