-- The values of constants as they are written.
use Rattle.std.specs.Prelude.{ℕ, zero, suc, ◌/◌, ◌%◌, ◌^◌, ◌==◌, ℤ, List, [], ◌∷◌, map, length, take, drop, slice_index_or}
use Rattle.av_bits.specs.declared.types.Width.{Width}
use Rattle.av_bits.specs.declared.types.Width.TheVariants.{W1, W8, W16, W32, W64}
use Rattle.av_bits.specs.Pattern.{bits_of, signed_value}
use Rattle.av_ir.specs.declared.ty.Elem.{Elem}
use Rattle.av_ir.specs.declared.ty.Elem.TheVariants.{Int, Index}
use Rattle.av_ir.specs.declared.ty.Ty.{Ty}
use Rattle.av_ir.specs.declared.ty.Ty.TheVariants.{Scalar, MemRef, Vector}
use Rattle.av_ir.specs.declared.module.Const.{Const}
use Rattle.av_ir.specs.declared.module.Const.TheVariants.{Splat, Each}
use Rattle.av_tree.specs.declared.attribute.Element.{Element}
use Rattle.av_tree.specs.declared.attribute.Element.TheVariants as element
use Rattle.av_tree.specs.declared.attribute.Attr.{Attr}
use Rattle.av_tree.specs.declared.attribute.Attr.TheVariants as attr
use Rattle.av_tree.specs.declared.written.TypeText.{TypeText}
use Rattle.av_totree.specs.declared.constants.OneValue.{OneValue}
use Rattle.av_totree.specs.declared.constants.OneValue.TheVariants.{Truth, Number}
use Rattle.av_totree.specs.Types.{type_of}

-- the signed value of a pattern's low bits, as many as the width has
abbrev pub signed_low : Width → ℕ → ℤ
signed_low width p = signed_value (bits_of width) (p % 2 ^ bits_of width)

-- one element: a truth value of i1, else a signed number
abbrev pub one_of : Elem → ℕ → OneValue
one_of Index p = Number (signed_low W64 p)
one_of (Int W1) p = Truth ((p % 2) == 1)
one_of (Int W8) p = Number (signed_low W8 p)
one_of (Int W16) p = Number (signed_low W16 p)
one_of (Int W32) p = Number (signed_low W32 p)
one_of (Int W64) p = Number (signed_low W64 p)

abbrev pub element_of : OneValue → Element
element_of (Truth b) = element.Bool b
element_of (Number z) = element.Number z

abbrev pub scalar_of : TypeText → OneValue → Attr
scalar_of type (Truth b) = attr.Bool b
scalar_of type (Number z) = attr.Number z type

-- a list in so many pieces of one length
unfoldable pub pieces : ℕ → ℕ → List ℕ → List (List ℕ)
pieces zero each ps = []
pieces (suc n) each ps = take each ps ∷ pieces n each (drop each ps)

-- patterns in row-major order as lists of lists, one level for each size
unfoldable pub nested_of : List ℕ → Elem → List ℕ → Element
nested_of [] elem ps = element_of (one_of elem (slice_index_or ps 0 0))
nested_of (n ∷ sizes) elem ps = element.List (map (nested_of sizes elem) (pieces n (length ps / n) ps))

abbrev pub first_of : Const → ℕ
first_of (Splat p) = p
first_of (Each ps) = slice_index_or ps 0 0

-- equal elements are written once
abbrev pub elements_of : List ℕ → Elem → Const → Element
elements_of sizes elem (Splat p) = element_of (one_of elem p)
elements_of sizes elem (Each ps) = nested_of sizes elem ps

-- a constant of a type
abbrev pub constant_of : Ty → Const → Attr
constant_of (Scalar elem) value = scalar_of (type_of (Scalar elem)) (one_of elem (first_of value))
constant_of (MemRef extents elem) value = scalar_of (type_of (MemRef extents elem)) (one_of elem (first_of value))
constant_of (Vector shape elem) value = attr.Dense (elements_of shape.sizes elem value) (type_of (Vector shape elem))
