-- Classes of types, and how the types of an operation's values are related.
use Rattle.std.specs.Prelude.{ℕ, ◌-◌, ◌==◌, nat_le, Bool, true, false, not, ◌&&◌, ◌||◌, List, [], ◌∷◌, length, drop}
use Rattle.std.specs.Bool.{beq}
use Rattle.std.specs.Cmp.Lexicographic.{pointwise}
use Rattle.av_bits.specs.declared.types.Width.TheVariants.{W1}
use Rattle.av_bits.specs.Pattern.{bits_of}
use Rattle.av_ir.specs.declared.ty.Elem.{Elem}
use Rattle.av_ir.specs.declared.ty.Elem.TheVariants.{Int, Index}
use Rattle.av_ir.specs.declared.ty.Extent.{Extent}
use Rattle.av_ir.specs.declared.ty.Extent.TheVariants.{Fixed, Dyn}
use Rattle.av_ir.specs.declared.ty.Ty.{Ty}
use Rattle.av_ir.specs.declared.ty.Ty.TheVariants.{Scalar, MemRef, Vector}
use Rattle.av_shapes.specs.Shape.{ShapeView, shape_eq}

-- ---- classes
abbrev pub is_scalar : Ty → Bool
is_scalar (Scalar elem) = true
is_scalar _ = false

abbrev pub is_vector : Ty → Bool
is_vector (Vector shape elem) = true
is_vector _ = false

abbrev pub is_memref : Ty → Bool
is_memref (MemRef sizes elem) = true
is_memref _ = false

-- a scalar, or a vector: a type of values that operations compute
abbrev pub is_plain : Ty → Bool
is_plain t = not (is_memref t)

-- the number of sizes
abbrev pub rank_of : Ty → ℕ
rank_of (Scalar elem) = 0
rank_of (MemRef sizes elem) = length sizes
rank_of (Vector shape elem) = length shape.sizes

-- the type of the elements; a scalar is its one element
abbrev pub element_of : Ty → Elem
element_of (Scalar elem) = elem
element_of (MemRef sizes elem) = elem
element_of (Vector shape elem) = elem

-- ---- element types
abbrev pub is_elem : Elem → Elem → Bool
is_elem Index Index = true
is_elem (Int v) (Int w) = bits_of v == bits_of w
is_elem _ _ = false

abbrev pub is_index : Elem → Bool
is_index Index = true
is_index _ = false

-- the elements are truth values
abbrev pub is_truth : Elem → Bool
is_truth elem = is_elem elem (Int W1)

-- ---- two types
abbrev pub is_extent : Extent → Extent → Bool
is_extent (Fixed n) (Fixed m) = n == m
is_extent Dyn Dyn = true
is_extent _ _ = false

-- both have the same form and the same sizes
abbrev pub same_sizes : Ty → Ty → Bool
same_sizes (Scalar a) (Scalar b) = true
same_sizes (MemRef sizes a) (MemRef others b) = pointwise is_extent sizes others
same_sizes (Vector shape a) (Vector other b) = shape_eq shape other
same_sizes _ _ = false

abbrev pub same_elements : Ty → Ty → Bool
same_elements a b = is_elem (element_of a) (element_of b)

abbrev pub same_type : Ty → Ty → Bool
same_type a b = same_sizes a b && same_elements a b

-- the type of this form and these sizes with other elements
abbrev pub with_elements : Ty → Elem → Ty
with_elements (Scalar a) elem = Scalar elem
with_elements (MemRef sizes a) elem = MemRef sizes elem
with_elements (Vector shape a) elem = Vector shape elem

-- the type of a truth value for each element
abbrev pub truths_of : Ty → Ty
truths_of t = with_elements t (Int W1)

-- ---- parts of vectors
-- a vector of these sizes, or a scalar where there are none
abbrev pub sized : List ℕ → Bool → Elem → Ty
sized [] scalable elem = Scalar elem
sized (n ∷ sizes) scalable elem = Vector (record { sizes = n ∷ sizes; scalable = scalable }) elem

-- the type of what stands at so many positions of the leading dimensions
abbrev pub part_of : Ty → ℕ → Ty
part_of (Vector shape elem) positions = sized (drop positions shape.sizes) shape.scalable elem
part_of t positions = t

-- ---- stretching
-- the sizes of a vector of the same rank, or 1 where it is stretched; the last of each is scalable or not
abbrev pub stretch : List ℕ → Bool → List ℕ → Bool → Bool
stretch [] scales [] scaled = true
stretch (n ∷ []) scales (m ∷ []) scaled = (n == m && beq scales scaled) || (n == 1 && not scales)
stretch (n ∷ ns) scales (m ∷ ms) scaled = (n == m || n == 1) && stretch ns scales ms scaled
stretch _ scales _ scaled = false

-- the dimensions are those at the end of another shape's, each the same or stretched from 1
abbrev pub fits_behind : ShapeView → ShapeView → Bool
fits_behind shape other =
    nat_le (length shape.sizes) (length other.sizes)
    && stretch shape.sizes shape.scalable (drop (length other.sizes - length shape.sizes) other.sizes) other.scalable

-- a scalar, or a vector whose dimensions fit behind, fills a vector with the same elements
abbrev pub stretches_to : Ty → Ty → Bool
stretches_to (Scalar a) (Vector other b) = is_elem a b
stretches_to (Vector shape a) (Vector other b) = is_elem a b && fits_behind shape other
stretches_to _ _ = false
