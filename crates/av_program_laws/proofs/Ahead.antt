-- The names and types of a function where a place of its text stands, with those that come after it.
use Rattle.std.proofs.Common.{◌≡◌, ap, sym, ◌∙◌, refl, ℕ, ◌+◌, ◌<◌, List, [], ◌∷◌, ◌++◌, map, length, get_or, append_assoc, arith, length-append}
use Rattle.std.proofs.lemmas.List.{get_or_append_left, get_or_at, set_at}
use Rattle.std.proofs.lemmas.Option.{slice_get-get_or}
use Rattle.std.specs.Prelude.{Option, Some, option_map, unwrap_or, slice_get, codes}
use Rattle.av_ir.specs.declared.ty.Elem.TheVariants.{Index}
use Rattle.av_ir.specs.declared.ty.Ty.{Ty}
use Rattle.av_ir.specs.declared.ty.Ty.TheVariants.{Scalar}
use Rattle.av_tree.specs.declared.written.TypeText.{TypeText}
use Rattle.av_tree.specs.declared.written.TypeText.TheVariants as text
use Rattle.av_totree.specs.Names.{Naming, name_of, written_type, argument_name, operation_name, with_results}
use Rattle.av_totree.specs.Names as names
use Rattle.av_totree.specs.Trees.{argument_type}
use Rattle.av_totree.specs.Types.{type_of}
use Rattle.av_program_laws.specs.Walks.{Place, type_at, name_at, next, passed, with_result, with_argument}
use Rattle.av_program_laws.specs.Modules.{value}

-- the names of values that aren't met yet
abbrev pub blank : List Ty → List (List ℕ)
blank rest = map (λ (ty : Ty). codes "%") rest

-- the names at a place, after which values of these types come
abbrev pub naming_at : List Ty → Place → Naming
naming_at rest place = record { names = place.names ++ blank rest; arguments = place.arguments; operations = place.operations }

-- each value has a name
abbrev pub IsNamed : Place → Type 0
IsNamed place = length place.names ≡ length place.types

abbrev pub AreBefore : Place → List ℕ → Type 0
AreBefore place [] = Unit {0}
AreBefore place (v ∷ vs) = (v < next place) × AreBefore place vs

-- ---- operands
pub operand_name : (rest : List Ty) (place : Place) (v : ℕ) → IsNamed place → v < next place
    → name_of (naming_at rest place) (value v) ≡ name_at place v
operand_name rest place v named lt = get_or_append_left place.names (blank rest) (codes "%") v (omega arith)

pub operand_names : (rest : List Ty) (place : Place) (vs : List ℕ) → IsNamed place → AreBefore place vs
    → map (name_of (naming_at rest place)) (map value vs) ≡ map (name_at place) vs
operand_names rest place [] named before = refl
operand_names rest place (v ∷ vs) named before =
    ap (λ name. name ∷ map (name_of (naming_at rest place)) (map value vs)) (operand_name rest place v named before.0)
    ∙ ap (λ names. name_at place v ∷ names) (operand_names rest place vs named before.1)

type_within : (types rest : List Ty) (v : ℕ) → v < length types → slice_get (types ++ rest) v ≡ Some (get_or types v (Scalar Index))
type_within types rest v lt =
    let within : v < length (types ++ rest) = omega (arith, length-append types rest) in
    slice_get-get_or (types ++ rest) v (Scalar Index) within ∙ ap Some (get_or_append_left types rest (Scalar Index) v lt)

pub operand_type : (rest : List Ty) (place : Place) (v : ℕ) → v < next place
    → written_type (place.types ++ rest) (value v) ≡ Some (type_of (type_at place v))
operand_type rest place v lt = ap (option_map type_of) (type_within place.types rest v lt)

pub operand_types : (rest : List Ty) (place : Place) (vs : List ℕ) → AreBefore place vs
    → map (written_type (place.types ++ rest)) (map value vs) ≡ map (λ v. Some (type_of (type_at place v))) vs
operand_types rest place [] before = refl
operand_types rest place (v ∷ vs) before =
    ap (λ ty. ty ∷ map (written_type (place.types ++ rest)) (map value vs)) (operand_type rest place v before.0)
    ∙ ap (λ (types : List (Option TypeText)). Some (type_of (type_at place v)) ∷ types) (operand_types rest place vs before.1)

-- ---- results
pub next_there : (ty : Ty) (rest : List Ty) (place : Place) → slice_get (place.types ++ ty ∷ rest) (next place) ≡ Some ty
next_there ty rest place =
    let within : next place < length (place.types ++ ty ∷ rest) = omega (arith, length-append place.types (ty ∷ rest)) in
    slice_get-get_or (place.types ++ ty ∷ rest) (next place) ty within ∙ ap Some (get_or_at place.types ty rest ty (next place) refl)

pub result_type : (ty : Ty) (rest : List Ty) (place : Place)
    → written_type (place.types ++ ty ∷ rest) (value (next place)) ≡ Some (type_of ty)
result_type ty rest place = ap (option_map type_of) (next_there ty rest place)

pub type_of_argument : (ty : Ty) (rest : List Ty) (place : Place)
    → argument_type (place.types ++ ty ∷ rest) (value (next place)) ≡ type_of ty
type_of_argument ty rest place = ap (λ o. unwrap_or o (text.Scalar (codes "index"))) (result_type ty rest place)

named_next : (ty : Ty) (rest : List Ty) (place : Place) (name : List ℕ) → IsNamed place
    → names.with_name (naming_at (ty ∷ rest) place).names (value (next place)) name ≡ (place.names ++ name ∷ []) ++ blank rest
named_next ty rest place name named =
    set_at place.names (codes "%") (blank rest) name (next place) named ∙ sym (append_assoc place.names (name ∷ []) (blank rest))

pub result_named : (ty : Ty) (rest : List Ty) (place : Place) → IsNamed place
    → with_results (value (next place) ∷ []) (naming_at (ty ∷ rest) place) ≡ naming_at rest (with_result ty place)
unfolding with_result
result_named ty rest place named = ap
    (λ (all : List (List ℕ)). record { names = all; arguments = place.arguments; operations = place.operations + 1 })
    (named_next ty rest place (operation_name place.operations) named)

pub argument_named : (ty : Ty) (rest : List Ty) (place : Place) → IsNamed place
    → names.with_argument (value (next place)) (naming_at (ty ∷ rest) place) ≡ naming_at rest (with_argument ty place)
unfolding with_argument
argument_named ty rest place named = ap
    (λ (all : List (List ℕ)). record { names = all; arguments = place.arguments + 1; operations = place.operations })
    (named_next ty rest place (argument_name place.arguments) named)

pub passed_named : (rest : List Ty) (place : Place) → naming_at rest place ≡ naming_at rest (passed place)
unfolding passed
passed_named rest place = refl

-- ---- each value of the place behind has a name
pub IsNamed-result : (ty : Ty) (place : Place) → IsNamed place → IsNamed (with_result ty place)
unfolding with_result
IsNamed-result ty place named =
    omega (arith, length-append place.names (operation_name place.operations ∷ []), length-append place.types (ty ∷ []))

pub IsNamed-argument : (ty : Ty) (place : Place) → IsNamed place → IsNamed (with_argument ty place)
unfolding with_argument
IsNamed-argument ty place named =
    omega (arith, length-append place.names (argument_name place.arguments ∷ []), length-append place.types (ty ∷ []))

pub IsNamed-passed : (place : Place) → IsNamed place → IsNamed (passed place)
unfolding passed
IsNamed-passed place named = named

-- ---- types of the place behind
pub types-result : (ty : Ty) (rest : List Ty) (place : Place) → place.types ++ ty ∷ rest ≡ (with_result ty place).types ++ rest
unfolding with_result
types-result ty rest place = sym (append_assoc place.types (ty ∷ []) rest)

pub types-argument : (ty : Ty) (rest : List Ty) (place : Place) → place.types ++ ty ∷ rest ≡ (with_argument ty place).types ++ rest
unfolding with_argument
types-argument ty rest place = sym (append_assoc place.types (ty ∷ []) rest)

pub types-passed : (rest : List Ty) (place : Place) → place.types ++ rest ≡ (passed place).types ++ rest
unfolding passed
types-passed rest place = refl

pub next-result : (ty : Ty) (place : Place) → next (with_result ty place) ≡ next place + 1
unfolding with_result
next-result ty place = length-append place.types (ty ∷ [])

pub next-argument : (ty : Ty) (place : Place) → next (with_argument ty place) ≡ next place + 1
unfolding with_argument
next-argument ty place = length-append place.types (ty ∷ [])

pub next-passed : (place : Place) → next (passed place) ≡ next place
unfolding passed
next-passed place = refl
