-- Types as they are written.
use Rattle.std.specs.Prelude.{ℕ, Bool, true, false, if◌then◌else◌, List, [], ◌∷◌, map, None, codes}
use Rattle.av_bits.specs.declared.types.Width.{Width}
use Rattle.av_bits.specs.declared.types.Width.TheVariants.{W1, W8, W16, W32, W64}
use Rattle.av_shapes.specs.declared.Shape.{Shape}
use Rattle.av_ir.specs.declared.ty.Elem.{Elem}
use Rattle.av_ir.specs.declared.ty.Elem.TheVariants.{Int, Index}
use Rattle.av_ir.specs.declared.ty.Extent.{Extent}
use Rattle.av_ir.specs.declared.ty.Extent.TheVariants as extent
use Rattle.av_ir.specs.declared.ty.Ty.{Ty}
use Rattle.av_ir.specs.declared.ty.Ty.TheVariants as ty
use Rattle.av_tree.specs.declared.written.SizeText.{SizeText}
use Rattle.av_tree.specs.declared.written.SizeText.TheVariants as size
use Rattle.av_tree.specs.declared.written.DimText.{DimText}
use Rattle.av_tree.specs.declared.written.DimText.TheVariants as dim
use Rattle.av_tree.specs.declared.written.TypeText.{TypeText}
use Rattle.av_tree.specs.declared.written.TypeText.TheVariants as text

abbrev pub elem_name : Elem → List ℕ
elem_name Index = codes "index"
elem_name (Int W1) = codes "i1"
elem_name (Int W8) = codes "i8"
elem_name (Int W16) = codes "i16"
elem_name (Int W32) = codes "i32"
elem_name (Int W64) = codes "i64"

abbrev pub size_of : Extent → SizeText
size_of (extent.Fixed n) = size.Fixed n
size_of extent.Dyn = size.Dynamic

-- the dimensions of a vector; where it is scalable, the last one counts times the scale
abbrev pub dims_of : Bool → List ℕ → List DimText
dims_of scalable [] = []
dims_of scalable (n ∷ []) = (if scalable then dim.Scalable n else dim.Fixed n) ∷ []
dims_of scalable (n ∷ m ∷ ns) = dim.Fixed n ∷ dims_of scalable (m ∷ ns)

abbrev pub type_of : Ty → TypeText
type_of (ty.Scalar elem) = text.Scalar (elem_name elem)
type_of (ty.MemRef extents elem) = text.MemRef (map size_of extents) (elem_name elem) None
type_of (ty.Vector shape elem) = text.Vector (dims_of shape.scalable shape.sizes) (elem_name elem)
