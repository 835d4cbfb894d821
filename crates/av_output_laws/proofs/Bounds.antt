-- The numbers of a sound program are small enough to be read.
use Rattle.std.proofs.Common.{◌≡◌, ℕ, zero, suc, ◌+◌, ◌-◌, ◌^◌, ◌<◌, ◌≤◌, List, [], ◌∷◌, ◌++◌, length, get_or, refl, sym, ◌∙◌, inl, inr, arith}
use Rattle.std.specs.Prelude.{ℤ, pos, negsuc, unsigned_abs}
use Rattle.std.proofs.lemmas.Bool.{cases_lt}
use Rattle.std.proofs.lemmas.Bool.Decides.{nat_tests}
use Rattle.std.proofs.lemmas.Int.{ints}
use Rattle.std.proofs.lemmas.List.{get_or_append_left, get_or-append_right}
use Rattle.av_bits.specs.declared.types.Width.TheVariants.{W32}
use Rattle.av_ir.specs.declared.ty.Elem.{Elem}
use Rattle.av_ir.specs.declared.ty.Elem.TheVariants.{Int, Index}
use Rattle.av_ir.specs.declared.ty.Ty.{Ty}
use Rattle.av_ir.specs.declared.ty.Ty.TheVariants.{Scalar}
use Rattle.av_totree.specs.Constants.{signed_low}
use Rattle.av_program_laws.specs.Programs.{Subscript, fixed, variable, plus, minus, Line, constant, sum, load, store, Step, single, counted}
use Rattle.av_program_laws.specs.Walks.{Place, element, buffer, type_at, passed, with_result, with_argument, after_line, after_lines, inside, after_step, after_steps}
use Rattle.av_program_laws.specs.Sound.{IsSoundSubscript}
use Rattle.av_print_laws.specs.ReadExpressions.{IsShortInteger}
use Rattle.av_output_laws.proofs.Subscripts.{IsReadSubscript}

pub small_constant : (pattern : ℕ) → unsigned_abs (signed_low W32 pattern) < 2 ^ 127
small_constant pattern = grind (arith, nat_tests, ints)

-- a number of fewer than 127 bits has at most 38 digits
pub short_integer : (z : ℤ) → unsigned_abs z ≤ 2 ^ 126 → IsShortInteger z
short_integer (pos n) h = omega arith
short_integer (negsuc n) h = omega arith

pub short_constant : (pattern : ℕ) → IsShortInteger (signed_low W32 pattern)
short_constant pattern = short_integer (signed_low W32 pattern) (grind (arith, nat_tests, ints))

pub read_subscript : (at : Subscript) → IsSoundSubscript at → IsReadSubscript at
read_subscript (fixed z) sound = omega arith
read_subscript variable sound = tt
read_subscript (plus z) sound = omega arith
read_subscript (minus z) sound = omega arith

-- ---- sizes of buffers
abbrev pub IsSmallAs : Ty → Type 0
IsSmallAs ty = (size : ℕ) → ty ≡ buffer size → size < 2 ^ 31

abbrev pub HasSmall : Place → Type 0
HasSmall place = (v : ℕ) → IsSmallAs (type_at place v)

pub small_scalar : (elem : Elem) → IsSmallAs (Scalar elem)
small_scalar elem size is = absurd (cc)

small_last : (ty : Ty) → IsSmallAs ty → (i : ℕ) → IsSmallAs (get_or (ty ∷ []) i (Scalar Index))
small_last ty one zero = one
small_last ty one (suc i) = small_scalar Index

small_push : (types : List Ty) (ty : Ty) → ((v : ℕ) → IsSmallAs (get_or types v (Scalar Index))) → IsSmallAs ty
    → (v : ℕ) → IsSmallAs (get_or (types ++ ty ∷ []) v (Scalar Index))
small_push types ty small one v size is = elim (cases_lt v (length types)) [
  | inl less ↦ small v size (sym (get_or_append_left types (ty ∷ []) (Scalar Index) v less) ∙ is)
  | inr le ↦ small_last ty one (v - length types) size (sym (get_or-append_right types (ty ∷ []) (length types) v (Scalar Index) refl le) ∙ is)
]

pub small-result : (ty : Ty) (place : Place) → HasSmall place → IsSmallAs ty → HasSmall (with_result ty place)
unfolding with_result
small-result ty place small one = small_push place.types ty small one

pub small-argument : (ty : Ty) (place : Place) → HasSmall place → IsSmallAs ty → HasSmall (with_argument ty place)
unfolding with_argument
small-argument ty place small one = small_push place.types ty small one

pub small-passed : (place : Place) → HasSmall place → HasSmall (passed place)
unfolding passed
small-passed place small = small

pub small-line : (line : Line) (place : Place) → HasSmall place → HasSmall (after_line line place)
unfolding after_line
small-line (constant pattern) place small = small-result element place small (small_scalar (Int W32))
small-line (sum left right) place small = small-result (type_at place left) place small (small left)
small-line (load from at) place small = small-result element place small (small_scalar (Int W32))
small-line (store stored into at) place small = small-passed place small

pub small-lines : (lines : List Line) (place : Place) → HasSmall place → HasSmall (after_lines lines place)
unfolding after_lines
small-lines [] place small = small
small-lines (line ∷ lines) place small = small-lines lines (after_line line place) (small-line line place small)

pub small-inside : (place : Place) → HasSmall place → HasSmall (inside place)
unfolding inside
small-inside place small = small-argument (Scalar Index) (record place { number = place.number + 1; loops = place.loops + 1 }) small (small_scalar Index)

pub small-step : (step : Step) (place : Place) → HasSmall place → HasSmall (after_step step place)
unfolding after_step
small-step (single pattern) place small = small-result element place small (small_scalar (Int W32))
small-step (counted lower upper lines) place small = small-passed (after_lines lines (inside place)) (small-lines lines (inside place) (small-inside place small))

-- ---- numbers of operations
pub number-line : (line : Line) (place : Place) → place.number ≤ (after_line line place).number
unfolding after_line with_result passed
number-line (constant pattern) place = omega arith
number-line (sum left right) place = omega arith
number-line (load from at) place = omega arith
number-line (store stored into at) place = omega arith

pub number-lines : (lines : List Line) (place : Place) → place.number ≤ (after_lines lines place).number
unfolding after_lines
number-lines [] place = omega arith
number-lines (line ∷ lines) place =
    omega (arith, number-line line place, number-lines lines (after_line line place))

loops-line : (line : Line) (place : Place) → (after_line line place).loops ≡ place.loops
unfolding after_line with_result passed
loops-line (constant pattern) place = refl
loops-line (sum left right) place = refl
loops-line (load from at) place = refl
loops-line (store stored into at) place = refl

loops-lines : (lines : List Line) (place : Place) → (after_lines lines place).loops ≡ place.loops
unfolding after_lines
loops-lines [] place = refl
loops-lines (line ∷ lines) place = loops-lines lines (after_line line place) ∙ loops-line line place

number-inside : (place : Place) → (inside place).number ≡ place.number + 1
unfolding inside with_argument
number-inside place = refl

loops-inside : (place : Place) → (inside place).loops ≡ place.loops + 1
unfolding inside with_argument
loops-inside place = refl

pub number-step : (step : Step) (place : Place) → place.number ≤ (after_step step place).number
unfolding after_step with_result passed
number-step (single pattern) place = omega arith
number-step (counted lower upper lines) place = omega (arith, number-inside place, number-lines lines (inside place))

pub number-steps : (steps : List Step) (place : Place) → place.number ≤ (after_steps steps place).number
unfolding after_steps
number-steps [] place = omega arith
number-steps (step ∷ steps) place = omega (arith, number-step step place, number-steps steps (after_step step place))

-- loops are operations
abbrev pub HasFewLoops : Place → Type 0
HasFewLoops place = place.loops ≤ place.number

pub few-step : (step : Step) (place : Place) → HasFewLoops place → HasFewLoops (after_step step place)
unfolding after_step with_result passed
few-step (single pattern) place few = omega arith
few-step (counted lower upper lines) place few =
    omega (arith, number-inside place, loops-inside place, number-lines lines (inside place), loops-lines lines (inside place))

-- the operations of a loop end before what follows it
pub lines-before : (lower upper : ℤ) (lines : List Line) (place : Place) (most : ℕ) → (after_step (counted lower upper lines) place).number < most
    → (after_lines lines (inside place)).number < most
unfolding after_step passed
lines-before lower upper lines place most h = omega arith
