-- What operations say besides their operands: properties and marks.
use Rattle.std.specs.Prelude.{ℕ, ◌+◌, pos, ◌-ℤ◌, Bool, if◌then◌else◌, List, [], ◌∷◌, ◌++◌, map, slice_get, Option, Some, None, codes}
use Rattle.av_affine.specs.declared.expression.AffMap.{AffMap}
use Rattle.av_bits.specs.declared.types.Pred.{Pred}
use Rattle.av_bits.specs.declared.types.Pred.TheVariants.{Eq, Ne, Slt, Sle, Sgt, Sge, Ult, Ule, Ugt, Uge}
use Rattle.av_bits.specs.declared.types.Kind9.{Kind9}
use Rattle.av_ir.specs.declared.ty.Ty.{Ty}
use Rattle.av_ir.specs.declared.module.ValueId.{ValueId}
use Rattle.av_ir.specs.declared.module.Const.{Const}
use Rattle.av_ir.specs.declared.module.Marks.{Marks}
use Rattle.av_ir.specs.declared.module.OpKind.{OpKind}
use Rattle.av_ir.specs.declared.module.OpKind.TheVariants.{ArithConstant, ArithCmpi, AffineFor, AffineIf, AffineApply, AffineMin, AffineMax, AffineLoad, AffineStore, VectorReduction, VectorExtract, VectorInsert, VectorShuffle}
use Rattle.av_tree.specs.declared.attribute.Attr.{Attr}
use Rattle.av_tree.specs.declared.attribute.Attr.TheVariants as attr
use Rattle.av_tree.specs.declared.attribute.Named.{Named}
use Rattle.av_tree.specs.declared.written.TypeText.{TypeText}
use Rattle.av_tree.specs.declared.written.TypeText.TheVariants as text
use Rattle.av_totree.specs.Texts.{entry}
use Rattle.av_totree.specs.Maps.{map_of, set_of}
use Rattle.av_totree.specs.Kinds.{combining_name}
use Rattle.av_totree.specs.Constants.{constant_of}

-- a number that isn't negative, of a scalar type
abbrev pub number_of : List ℕ → ℕ → Attr
number_of type n = attr.Number (pos n) (text.Scalar type)

abbrev pub map_entry : List ℕ → AffMap → Named
map_entry name m = entry name (attr.Map (map_of m))

-- how many operands the lower map has, the upper map, and the rest
abbrev pub segments_of : AffMap → AffMap → ℕ → Attr
segments_of lower upper operands =
    attr.Array (text.Scalar (codes "i32"))
    (pos (lower.dims + lower.syms) ∷ pos (upper.dims + upper.syms)
    ∷ (pos operands -ℤ pos (lower.dims + lower.syms) -ℤ pos (upper.dims + upper.syms)) ∷ [])

-- the value of a constant is written with the type of its result
abbrev pub typed_value : Const → Option Ty → List Named
typed_value value None = []
typed_value value (Some ty) = entry (codes "value") (constant_of ty value) ∷ []

abbrev pub first_type : List Ty → List ValueId → Option Ty
first_type types [] = None
first_type types (id ∷ ids) = slice_get types id.0

-- the number of a predicate
abbrev pub predicate_of : Pred → ℕ
predicate_of Eq = 0
predicate_of Ne = 1
predicate_of Slt = 2
predicate_of Sle = 3
predicate_of Sgt = 4
predicate_of Sge = 5
predicate_of Ult = 6
predicate_of Ule = 7
predicate_of Ugt = 8
predicate_of Uge = 9

abbrev pub combining_of : Kind9 → Attr
combining_of kind = attr.Hash (codes "#vector.kind") (combining_name kind ∷ [])

-- positions of elements
abbrev pub numbers_of : List ℕ → Attr
numbers_of positions = attr.Array (text.Scalar (codes "i64")) (map pos positions)

-- the properties of an operation, in the order in which its own form has them
abbrev pub properties_of : List Ty → OpKind → ℕ → List ValueId → List Named
properties_of types (ArithConstant value) operands results = typed_value value (first_type types results)
properties_of types (ArithCmpi pred) operands results = entry (codes "predicate") (number_of (codes "i64") (predicate_of pred)) ∷ []
properties_of types (AffineFor lower upper step) operands results =
    entry (codes "operandSegmentSizes") (segments_of lower upper operands)
    ∷ entry (codes "step") (number_of (codes "index") step)
    ∷ map_entry (codes "lowerBoundMap") lower
    ∷ map_entry (codes "upperBoundMap") upper
    ∷ []
properties_of types (AffineIf set) operands results = entry (codes "condition") (attr.Set (set_of set)) ∷ []
properties_of types (AffineApply m) operands results = map_entry (codes "map") m ∷ []
properties_of types (AffineMin m) operands results = map_entry (codes "map") m ∷ []
properties_of types (AffineMax m) operands results = map_entry (codes "map") m ∷ []
properties_of types (AffineLoad m) operands results = map_entry (codes "map") m ∷ []
properties_of types (AffineStore m) operands results = map_entry (codes "map") m ∷ []
properties_of types (VectorReduction kind) operands results = entry (codes "kind") (combining_of kind) ∷ []
properties_of types (VectorExtract at) operands results = entry (codes "static_position") (numbers_of at) ∷ []
properties_of types (VectorInsert at) operands results = entry (codes "static_position") (numbers_of at) ∷ []
properties_of types (VectorShuffle picks) operands results = entry (codes "mask") (numbers_of picks) ∷ []
properties_of types kind operands results = []

abbrev pub function_properties_of : List ℕ → List TypeText → List TypeText → List Named
function_properties_of name inputs results =
    entry (codes "function_type") (attr.Type (text.Func inputs results)) ∷ entry (codes "sym_name") (attr.Quoted name) ∷ []

-- a mark with its number, where it is there
abbrev pub number_mark : List ℕ → Option ℕ → List Named
number_mark name None = []
number_mark name (Some n) = entry name (number_of (codes "i64") n) ∷ []

abbrev pub distinct_mark : Bool → List Named
distinct_mark distinct = if distinct then entry (codes "affvec.distinct") attr.Unit ∷ [] else []

-- marks as attributes, in order of name
abbrev pub marks_of : Marks → List Named
marks_of marks =
    (distinct_mark marks.distinct ++ number_mark (codes "affvec.loop") marks.loop_no) ++ number_mark (codes "affvec.of") marks.source
