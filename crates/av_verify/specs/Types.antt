-- What types are as they are written.
use Rattle.std.specs.Prelude.{ℕ, ◌^◌, nat_le, nat_lt, ◌==◌, Bool, true, false, ◌&&◌, if◌then◌else◌, List, length, map, codes, Option, Some, None, is_some, is_none}
use Rattle.std.specs.List.{list_all}
use Rattle.std.specs.Option.{option_map, option_map_or}
use Rattle.std.specs.Cmp.Lexicographic.{pointwise}
use Rattle.std.specs.Str.{bytes_eq}
use Rattle.av_bits.specs.declared.types.Width.TheVariants.{W1, W8, W16, W32, W64}
use Rattle.av_bits.specs.Pattern.{bits_of}
use Rattle.av_ir.specs.declared.ty.Elem.{Elem}
use Rattle.av_ir.specs.declared.ty.Elem.TheVariants.{Int, Index}
use Rattle.av_ir.specs.declared.ty.Extent.{Extent}
use Rattle.av_ir.specs.declared.ty.Extent.TheVariants as extent
use Rattle.av_ir.specs.declared.ty.Ty.{Ty}
use Rattle.av_ir.specs.declared.ty.Ty.TheVariants as ty
use Rattle.av_tree.specs.declared.written.LayoutText.{LayoutText}
use Rattle.av_tree.specs.declared.written.SizeText.{SizeText}
use Rattle.av_tree.specs.declared.written.SizeText.TheVariants.{Fixed, Dynamic}
use Rattle.av_tree.specs.declared.written.TypeText.{TypeText, Scalar, MemRef}

-- the element type of a name
abbrev pub elem_of : List ℕ → Option Elem
elem_of name =
    if bytes_eq name (codes "index") then Some Index
    else (if bytes_eq name (codes "i1") then Some (Int W1)
    else (if bytes_eq name (codes "i8") then Some (Int W8)
    else (if bytes_eq name (codes "i16") then Some (Int W16)
    else (if bytes_eq name (codes "i32") then Some (Int W32)
    else (if bytes_eq name (codes "i64") then Some (Int W64)
    else None)))))

-- the element type that a scalar type names
abbrev pub written_scalar : TypeText → Option Elem
written_scalar (Scalar name) = elem_of name
written_scalar _ = None

-- the element type of a scalar type
abbrev pub scalar_of : Ty → Option Elem
scalar_of (ty.Scalar elem) = Some elem
scalar_of _ = None

-- a type that some value has; vectors aren't taken yet
abbrev pub is_type : TypeText → Bool
is_type (Scalar name) = is_some (elem_of name)
is_type (MemRef sizes elem layout) = is_some (elem_of elem)
is_type _ = false

-- a size of at most 2 ^ 31 - 1
abbrev pub is_small : SizeText → Bool
is_small (Fixed n) = nat_lt n (2 ^ 31)
is_small Dynamic = true

-- at most 8 sizes, each small; layouts aren't taken yet
abbrev pub is_within_limits : TypeText → Bool
is_within_limits (MemRef sizes elem layout) = is_none layout && nat_le (length sizes) 8 && list_all is_small sizes
is_within_limits _ = true

-- a size as an extent of a memref type
abbrev pub extent_of : SizeText → Extent
extent_of (Fixed n) = extent.Fixed n
extent_of Dynamic = extent.Dyn

-- the extents of sizes that are all small
abbrev pub extents_of : List SizeText → Option (List Extent)
extents_of sizes = if list_all is_small sizes then Some (map extent_of sizes) else None

-- the type that a written type is, where its sizes are small
abbrev pub memref_of : Option Elem → Option (List Extent) → Option Ty
memref_of (Some elem) (Some extents) = Some (ty.MemRef extents elem)
memref_of _ _ = None

abbrev pub type_of : TypeText → Option Ty
type_of (Scalar name) = option_map (λ elem. ty.Scalar elem) (elem_of name)
type_of (MemRef sizes name layout) = memref_of (elem_of name) (extents_of sizes)
type_of _ = None

-- a size is written as this extent
abbrev pub is_extent : SizeText → Extent → Bool
is_extent (Fixed n) (extent.Fixed m) = n == m
is_extent Dynamic extent.Dyn = true
is_extent _ _ = false

-- the name is that of this element type
abbrev pub is_elem : Elem → Elem → Bool
is_elem Index Index = true
is_elem (Int v) (Int w) = bits_of v == bits_of w
is_elem _ _ = false

abbrev pub names_elem : List ℕ → Elem → Bool
names_elem name elem = option_map_or (is_elem elem) (elem_of name) false

-- a type is written, or left out, as the type of its value is
abbrev pub agrees : Option TypeText → Ty → Bool
agrees None t = true
agrees (Some (Scalar name)) (ty.Scalar elem) = names_elem name elem
agrees (Some (MemRef sizes name None)) (ty.MemRef extents elem) =
    names_elem name elem && pointwise is_extent sizes extents
agrees (Some _) t = false

-- ---- types that are written alike
abbrev pub same_size : SizeText → SizeText → Bool
same_size (Fixed n) (Fixed m) = n == m
same_size Dynamic Dynamic = true
same_size _ _ = false

abbrev pub same_layout : Option LayoutText → Option LayoutText → Bool
same_layout (Some a) (Some b) = pointwise same_size a.strides b.strides && same_size a.offset b.offset
same_layout None None = true
same_layout _ _ = false

-- two types of values; vectors aren't taken yet
abbrev pub same_type : TypeText → TypeText → Bool
same_type (Scalar a) (Scalar b) = bytes_eq a b
same_type (MemRef sizes elem layout) (MemRef others name placed) = pointwise same_size sizes others && bytes_eq elem name && same_layout layout placed
same_type _ _ = false
