-- Some written types, and what they are.
use Rattle.std.specs.Prelude.{◌≡◌, Bool, true, false, [], ◌∷◌, codes, Some, None}
use Rattle.av_bits.specs.declared.types.Width.TheVariants.{W8, W32}
use Rattle.av_ir.specs.declared.ty.Elem.TheVariants.{Int, Index}
use Rattle.av_ir.specs.declared.ty.Extent.TheVariants as extent
use Rattle.av_ir.specs.declared.ty.Ty.TheVariants as ty
use Rattle.av_tree.specs.declared.written.DimText.TheVariants as dim
use Rattle.av_tree.specs.declared.written.SizeText.TheVariants as size
use Rattle.av_tree.specs.declared.written.TypeText.{TypeText}
use Rattle.av_tree.specs.declared.written.TypeText.TheVariants as text
use Rattle.av_types.specs.Texts.{is_trailing, is_type, is_within_limits}
use Rattle.av_types.specs.Types.{type_of}
use Rattle.av_types.specs.Relations.{stretches_to}

-- whether it is a type, is within the limits, and is scalable at most in its last dimension
abbrev Asked : TypeText → Bool → Bool → Bool → Type 0
Asked t known within trailing = (is_type t ≡ known) × (is_within_limits t ≡ within) × (is_trailing t ≡ trailing)

-- i7 is no type, and a memref of it is none
abbrev NoSuchElement : Type 0
NoSuchElement = (type_of (text.Scalar (codes "i7")) ≡ None) × Asked (text.MemRef [] (codes "i032") None) false true true

-- memref<?x2147483647xi8> is a type, and memref<2147483648xi8> over a limit
abbrev SizesOfMemrefs : Type 0
SizesOfMemrefs =
    (type_of (text.MemRef (size.Dynamic ∷ size.Fixed 2147483647 ∷ []) (codes "i8") None)
    ≡ Some (ty.MemRef (extent.Dyn ∷ extent.Fixed 2147483647 ∷ []) (Int W8)))
    × Asked (text.MemRef (size.Fixed 2147483648 ∷ []) (codes "i8") None) true false true

-- vector<8x[32]xi32> has 256 lanes at scale 1, and vector<257xi32> one too many
abbrev Lanes : Type 0
Lanes =
    (type_of (text.Vector (dim.Fixed 8 ∷ dim.Scalable 32 ∷ []) (codes "i32"))
    ≡ Some (ty.Vector (record { sizes = 8 ∷ 32 ∷ []; scalable = true }) (Int W32)))
    × Asked (text.Vector (dim.Fixed 257 ∷ []) (codes "i32")) true false true

-- vector<i1>, vector<0xi1> and vector<?xi1> are no types, and vector<[4]x4xi1> isn't scalable at its end
abbrev Dimensions : Type 0
Dimensions =
    Asked (text.Vector [] (codes "i1")) false true true × Asked (text.Vector (dim.Fixed 0 ∷ []) (codes "i1")) false true true
    × Asked (text.Vector (dim.Dynamic ∷ []) (codes "i1")) false true true
    × Asked (text.Vector (dim.Scalable 4 ∷ dim.Fixed 4 ∷ []) (codes "i1")) true true false

-- 1x[4] stretches to 2x3x[4], and [4] doesn't to 4
abbrev Stretching : Type 0
Stretching =
    (stretches_to (ty.Vector (record { sizes = 1 ∷ 4 ∷ []; scalable = true }) Index)
    (ty.Vector (record { sizes = 2 ∷ 3 ∷ 4 ∷ []; scalable = true }) Index) ≡ true)
    × (stretches_to (ty.Vector (record { sizes = 4 ∷ []; scalable = true }) Index)
    (ty.Vector (record { sizes = 4 ∷ []; scalable = false }) Index) ≡ false)

abbrev pub TypeExamples : Type 0
TypeExamples = NoSuchElement × SizesOfMemrefs × Lanes × Dimensions × Stretching
