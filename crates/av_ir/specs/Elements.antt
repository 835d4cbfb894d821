-- Work element by element: once for a scalar, and on each lane of a vector.
use Rattle.std.specs.Prelude.{ℕ, ◌%◌, ◌^◌, ◌==◌, Bool, true, false, if◌then◌else◌, List, [], ◌∷◌, map, slice_index_or, Result, Ok, Err}
use Rattle.std.specs.List.{range_with_len}
use Rattle.av_bits.specs.declared.types.Width.{Width}
use Rattle.av_bits.specs.declared.types.Width.TheVariants.{W64}
use Rattle.av_bits.specs.declared.types.DivideTrap.{DivideTrap}
use Rattle.av_bits.specs.declared.types.BinOp.{BinOp}
use Rattle.av_bits.specs.declared.types.Pred.{Pred}
use Rattle.av_bits.specs.declared.types.CastOp.{CastOp}
use Rattle.av_bits.specs.Pattern.{bits_of}
use Rattle.av_bits.specs.Scalar.{binary_of, cast_of, compare_of}
use Rattle.av_shapes.specs.Places.{lanes as lanes_of}
use Rattle.av_ir.specs.declared.ty.Ty.{Ty}
use Rattle.av_ir.specs.declared.ty.Ty.TheVariants.{Scalar, MemRef, Vector}
use Rattle.av_ir.specs.declared.run.TrapKind.TheVariants.{Divide}
use Rattle.av_ir.specs.Values.{width_of}
use Rattle.av_ir.specs.Run.{Value, word, lanes, word_of, Memory, Run, traps, Given, gives}

-- the width of the elements of a type
abbrev pub element_width : Ty → Width
element_width (Scalar elem) = width_of elem
element_width (MemRef extents elem) = width_of elem
element_width (Vector shape elem) = width_of elem

-- an operation's width is that of its first result or of its first operand
abbrev pub first_width : List Ty → Width
first_width [] = W64
first_width (ty ∷ types) = element_width ty

-- ---- one element
-- an operand counts by its low bits, as many as the width has
abbrev pub low : Width → ℕ → ℕ
low width p = p % 2 ^ bits_of width

abbrev pub pattern_at : List ℕ → ℕ → ℕ
pattern_at ps k = slice_index_or ps k 0

abbrev pub bit_of : Bool → ℕ
bit_of true = 1
bit_of false = 0

-- the pattern that an operation gives of the patterns of its operands
abbrev pub Element : Type 0
Element = List ℕ → Result ℕ DivideTrap

abbrev pub binary_element : BinOp → Width → Element
binary_element op width ps = binary_of op width (low width (pattern_at ps 0)) (low width (pattern_at ps 1))

abbrev pub compare_element : Pred → Width → Element
compare_element pred width ps = Ok (bit_of (compare_of pred width (low width (pattern_at ps 0)) (low width (pattern_at ps 1))))

-- the second operand where the condition is 1, else the third
abbrev pub select_element : Element
select_element ps = Ok (if pattern_at ps 0 == 1 then pattern_at ps 1 else pattern_at ps 2)

abbrev pub cast_element : CastOp → Width → Width → Element
cast_element op from to ps = Ok (cast_of op from to (low from (pattern_at ps 0)))

-- ---- all elements
-- what the first result of an operation is: one element, or a vector of so many lanes
pub data Form : Type 0 where
  one : Form
  many : ℕ → Form

-- at a scale a scalable vector has its number of lanes times the scale
abbrev pub form_of : ℕ → List Ty → Form
form_of scale [] = one
form_of scale (Scalar elem ∷ types) = one
form_of scale (MemRef extents elem ∷ types) = one
form_of scale (Vector shape elem ∷ types) = many (lanes_of shape scale)

-- a lane of a vector; a scalar stands for each lane
abbrev pub lane_of : Value → ℕ → ℕ
lane_of (word p) k = p
lane_of (lanes ps) k = slice_index_or ps k 0

abbrev pub element_given : ℕ → Memory → Result ℕ DivideTrap → Run Given
element_given number memory (Ok p) = gives (word p ∷ []) memory
element_given number memory (Err trap) = traps Divide number 0

-- the patterns of all lanes if none traps
abbrev pub with_lane : ℕ → Result (List ℕ) DivideTrap → Result (List ℕ) DivideTrap
with_lane p (Ok ps) = Ok (p ∷ ps)
with_lane p (Err trap) = Err trap

abbrev pub first_lane : Result ℕ DivideTrap → Result (List ℕ) DivideTrap → Result (List ℕ) DivideTrap
first_lane (Ok p) rest = with_lane p rest
first_lane (Err trap) rest = Err trap

abbrev pub all_lanes : List (Result ℕ DivideTrap) → Result (List ℕ) DivideTrap
all_lanes [] = Ok []
all_lanes (r ∷ rs) = first_lane r (all_lanes rs)

abbrev pub lanes_given : ℕ → Memory → Result (List ℕ) DivideTrap → Run Given
lanes_given number memory (Ok ps) = gives (lanes ps ∷ []) memory
lanes_given number memory (Err trap) = traps Divide number 0

-- an operation on elements does its work once for a scalar, and on each lane of a vector; it traps where a lane traps
abbrev pub elementwise : Form → Element → ℕ → List Value → Memory → Run Given
elementwise one element number values memory = element_given number memory (element (map word_of values))
elementwise (many count) element number values memory =
    lanes_given number memory (all_lanes (map (λ k. element (map (λ value. lane_of value k) values)) (range_with_len 0 count)))
