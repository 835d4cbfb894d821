-- The type that a written type is, where all that is asked of it holds.
use Rattle.std.specs.Prelude.{Bool, ◌&&◌, if◌then◌else◌, List, map, Option, None}
use Rattle.std.specs.List.{list_any}
use Rattle.std.specs.Option.{option_map}
use Rattle.av_ir.specs.declared.ty.Extent.{Extent}
use Rattle.av_ir.specs.declared.ty.Extent.TheVariants as extent
use Rattle.av_ir.specs.declared.ty.Ty.{Ty}
use Rattle.av_ir.specs.declared.ty.Ty.TheVariants as ty
use Rattle.av_shapes.specs.Shape.{ShapeView}
use Rattle.av_tree.specs.declared.written.DimText.{DimText}
use Rattle.av_tree.specs.declared.written.SizeText.{SizeText}
use Rattle.av_tree.specs.declared.written.SizeText.TheVariants.{Fixed, Dynamic}
use Rattle.av_tree.specs.declared.written.TypeText.{TypeText, Scalar, MemRef, Vector}
use Rattle.av_types.specs.Texts.{elem_of, is_scalable, is_trailing, is_type, is_within_limits, size_of}

-- a size as an extent of a memref type
abbrev pub extent_of : SizeText → Extent
extent_of (Fixed n) = extent.Fixed n
extent_of Dynamic = extent.Dyn

-- dimensions as a shape, which is scalable where one of them is
abbrev pub shape_of : List DimText → ShapeView
shape_of dims = record { sizes = map size_of dims; scalable = list_any is_scalable dims }

-- all that is asked of a written type
abbrev pub is_taken : TypeText → Bool
is_taken t = is_type t && is_within_limits t && is_trailing t

-- the type with elements of a name
abbrev pub named_type : TypeText → Option Ty
named_type (Scalar name) = option_map (λ elem. ty.Scalar elem) (elem_of name)
named_type (MemRef sizes name layout) = option_map (λ elem. ty.MemRef (map extent_of sizes) elem) (elem_of name)
named_type (Vector dims name) = option_map (λ elem. ty.Vector (shape_of dims) elem) (elem_of name)
named_type _ = None

-- the type that a written type is; none where something that is asked of it fails
abbrev pub type_of : TypeText → Option Ty
type_of t = if is_taken t then named_type t else None
