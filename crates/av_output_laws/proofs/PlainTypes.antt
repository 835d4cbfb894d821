-- The types of the values of a program are scalars and buffers, along its text.
use Rattle.std.proofs.Common.{ℕ, zero, suc, ◌+◌, ◌-◌, ◌^◌, ◌<◌, List, [], ◌∷◌, ◌++◌, length, get_or, refl, sym, subst, inl, inr, arith}
use Rattle.std.specs.Prelude.{None, codes}
use Rattle.std.specs.List.{All}
use Rattle.std.proofs.lemmas.Bool.{cases_lt}
use Rattle.std.proofs.lemmas.List.{get_or_append_left, get_or-append_right}
use Rattle.std.proofs.lemmas.List.Elements.{All-nil, All-cons}
use Rattle.av_ir.specs.declared.ty.Elem.TheVariants.{Int, Index}
use Rattle.av_bits.specs.declared.types.Width.TheVariants.{W32}
use Rattle.av_ir.specs.declared.ty.Ty.{Ty}
use Rattle.av_ir.specs.declared.ty.Ty.TheVariants.{Scalar}
use Rattle.av_program_laws.specs.Programs.{Line, constant, sum, load, store, Step, single, counted}
use Rattle.av_program_laws.specs.Walks.{Place, element, buffer, type_at, passed, with_result, with_argument, after_line, after_lines, inside, after_step, after_buffers, first_place}
use Rattle.av_ir.specs.declared.ty.Elem.{Elem}
use Rattle.av_tree.specs.declared.written.SizeText.TheVariants as sizes
use Rattle.av_totree.specs.Types.{type_of, elem_name}
use Rattle.av_print_laws.specs.ReadTypes.{IsShortSize}
use Rattle.av_round_trip.specs.Types.{IsType, scalar, mem_ref}
use Rattle.av_output_laws.proofs.Parts.{class-elem}

-- a type that is printed and read again as itself
abbrev pub IsPlainType : Ty → Type 0
IsPlainType ty = IsType (type_of ty)

pub scalar_type : (elem : Elem) → IsPlainType (Scalar elem)
scalar_type elem = scalar (elem_name elem) (class-elem elem)

pub buffer_type : (size : ℕ) → size < 2 ^ 31 → IsPlainType (buffer size)
buffer_type size small =
    let short : IsShortSize (sizes.Fixed size) = omega arith in
    mem_ref (sizes.Fixed size ∷ []) (codes "i32") None (All-cons IsShortSize (sizes.Fixed size) [] short (All-nil IsShortSize)) (class-elem (Int W32)) tt

abbrev pub HasPlainTypes : Place → Type 0
HasPlainTypes place = (v : ℕ) → IsPlainType (type_at place v)

pub index_type : IsPlainType (Scalar Index)
index_type = scalar_type Index

pub element_type : IsPlainType element
element_type = scalar_type (Int W32)

types_last : (ty : Ty) → IsPlainType ty → (i : ℕ) → IsPlainType (get_or (ty ∷ []) i (Scalar Index))
types_last ty one zero = one
types_last ty one (suc i) = index_type

types_push : (types : List Ty) (ty : Ty) → ((v : ℕ) → IsPlainType (get_or types v (Scalar Index))) → IsPlainType ty
    → (v : ℕ) → IsPlainType (get_or (types ++ ty ∷ []) v (Scalar Index))
types_push types ty all one v = elim (cases_lt v (length types)) [
  | inl less ↦ subst IsPlainType (sym (get_or_append_left types (ty ∷ []) (Scalar Index) v less)) (all v)
  | inr le ↦ subst IsPlainType (sym (get_or-append_right types (ty ∷ []) (length types) v (Scalar Index) refl le)) (types_last ty one (v - length types))
]

types-result : (ty : Ty) (place : Place) → HasPlainTypes place → IsPlainType ty → HasPlainTypes (with_result ty place)
unfolding with_result
types-result ty place all one = types_push place.types ty all one

types-argument : (ty : Ty) (place : Place) → HasPlainTypes place → IsPlainType ty → HasPlainTypes (with_argument ty place)
unfolding with_argument
types-argument ty place all one = types_push place.types ty all one

types-passed : (place : Place) → HasPlainTypes place → HasPlainTypes (passed place)
unfolding passed
types-passed place all = all

pub types-line : (line : Line) (place : Place) → HasPlainTypes place → HasPlainTypes (after_line line place)
unfolding after_line
types-line (constant pattern) place all = types-result element place all element_type
types-line (sum left right) place all = types-result (type_at place left) place all (all left)
types-line (load from at) place all = types-result element place all element_type
types-line (store stored into at) place all = types-passed place all

types-lines : (lines : List Line) (place : Place) → HasPlainTypes place → HasPlainTypes (after_lines lines place)
unfolding after_lines
types-lines [] place all = all
types-lines (line ∷ lines) place all = types-lines lines (after_line line place) (types-line line place all)

pub types-inside : (place : Place) → HasPlainTypes place → HasPlainTypes (inside place)
unfolding inside
types-inside place all = types-argument (Scalar Index) (record place { number = place.number + 1; loops = place.loops + 1 }) all index_type

pub types-step : (step : Step) (place : Place) → HasPlainTypes place → HasPlainTypes (after_step step place)
unfolding after_step
types-step (single pattern) place all = types-result element place all element_type
types-step (counted lower upper lines) place all = types-passed (after_lines lines (inside place)) (types-lines lines (inside place) (types-inside place all))

abbrev pub AreSmall : List ℕ → Type 0
AreSmall sizes = All (λ (size : ℕ). size < 2 ^ 31) sizes

pub types-buffers : (sizes : List ℕ) (place : Place) → AreSmall sizes → HasPlainTypes place → HasPlainTypes (after_buffers sizes place)
unfolding after_buffers
types-buffers [] place small all = all
types-buffers (size ∷ sizes) place small all =
    types-buffers sizes (with_argument (buffer size) place) (λ k d below. small (suc k) d (omega arith))
    (types-argument (buffer size) place all (buffer_type size (small 0 size (omega arith))))

pub no_types : HasPlainTypes first_place
no_types v = index_type
