-- What holds of the types that written types are.
use Rattle.std.specs.Prelude.{◌≡◌, ◌^◌, ◌<◌, ◌≤◌, length, Some}
use Rattle.std.specs.List.{All}
use Rattle.av_ir.specs.declared.ty.Extent.{Extent}
use Rattle.av_ir.specs.declared.ty.Extent.TheVariants.{Fixed, Dyn}
use Rattle.av_ir.specs.declared.ty.Ty.{Ty}
use Rattle.av_ir.specs.declared.ty.Ty.TheVariants.{Scalar, MemRef, Vector}
use Rattle.av_shapes.specs.Shape.{AreSizes}
use Rattle.av_tree.specs.declared.written.TypeText.{TypeText}
use Rattle.av_types.specs.Types.{type_of}

abbrev pub IsSmall : Extent → Type 0
IsSmall (Fixed n) = n < 2 ^ 31
IsSmall Dyn = Unit {0}

-- at most 8 sizes of a buffer, each below 2 ^ 31, and sizes of a vector as they are in a shape
abbrev pub IsWithinLimits : Ty → Type 0
IsWithinLimits (Scalar elem) = Unit {0}
IsWithinLimits (MemRef sizes elem) = (length sizes ≤ 8) × All IsSmall sizes
IsWithinLimits (Vector shape elem) = AreSizes shape.sizes

-- each type that a written type is, is within the limits
abbrev pub TypeLimitsLaw : Type 0
TypeLimitsLaw = (text : TypeText) (t : Ty) → type_of text ≡ Some t → IsWithinLimits t
