-- How places go on, and which blocks have which operations.
use Rattle.std.proofs.Common.{◌≡◌, ◌∙◌, ℕ, suc, ◌+◌, ◌-◌, ◌≤◌, arith, Bool, true, false, List, [], ◌∷◌, ◌++◌, length, length-append, take, refl, subst}
use Rattle.std.specs.Prelude.{◌&&◌, slice_get}
use Rattle.std.specs.List.{list_all}
use Rattle.std.specs.Option.{option_map_or}
use Rattle.av_ir.specs.declared.ty.Ty.{Ty}
use Rattle.av_verify.specs.FirstPath.{is_block}
use Rattle.av_program_laws.specs.Programs.{Line, constant, sum, load, store}
use Rattle.av_program_laws.specs.Walks.{Place, element, type_at, with_result, passed, after_line, after_lines}
use Rattle.av_program_laws.proofs.TakenRules.{both}

-- ---- places
pub line_number : (line : Line) (place : Place) → (after_line line place).number ≡ place.number + 1
unfolding after_line with_result passed
line_number (constant pattern) place = refl
line_number (sum left right) place = refl
line_number (load from at) place = refl
line_number (store stored into at) place = refl

pub line_loops : (line : Line) (place : Place) → (after_line line place).loops ≡ place.loops
unfolding after_line with_result passed
line_loops (constant pattern) place = refl
line_loops (sum left right) place = refl
line_loops (load from at) place = refl
line_loops (store stored into at) place = refl

one_longer : (types : List Ty) (ty : Ty) → length types ≤ length (types ++ ty ∷ [])
one_longer types ty = omega (arith, length-append types (ty ∷ []))

line_grows : (line : Line) (place : Place) → length place.types ≤ length (after_line line place).types
unfolding after_line with_result passed
line_grows (constant pattern) place = one_longer place.types element
line_grows (sum left right) place = one_longer place.types (type_at place left)
line_grows (load from at) place = one_longer place.types element
line_grows (store stored into at) place = omega arith

pub lines_loops : (lines : List Line) (place : Place) → (after_lines lines place).loops ≡ place.loops
unfolding after_lines
lines_loops [] place = refl
lines_loops (line ∷ lines) place = lines_loops lines (after_line line place) ∙ line_loops line place

pub lines_grow : (lines : List Line) (place : Place) → length place.types ≤ length (after_lines lines place).types
unfolding after_lines
lines_grow [] place = omega arith
lines_grow (line ∷ lines) place = let a = line_grows line place in let b = lines_grow lines (after_line line place) in omega arith

-- ---- blocks
module _ {A : Type 0} (inner last : A → Bool) where
  pub no_block : is_block inner last [] ≡ true → ⊥
  no_block h = absurd (cc)

  pub last_of_block : (a : A) → is_block inner last (a ∷ []) ≡ true → last a ≡ true
  last_of_block a h = (both _ _ h).0

  pub first_of_block : (a b : A) (xs : List A) → is_block inner last (a ∷ b ∷ xs) ≡ true → (inner a ≡ true) × (is_block inner last (b ∷ xs) ≡ true)
  first_of_block a b xs h =
      let k = length (b ∷ xs) - 1 in
      let e : length (a ∷ b ∷ xs) - 1 ≡ suc k = omega arith in
      let moved : (option_map_or last (slice_get (a ∷ b ∷ xs) (suc k)) false && list_all inner (take (suc k) (a ∷ b ∷ xs))) ≡ true =
      subst (λ (n : ℕ). (option_map_or last (slice_get (a ∷ b ∷ xs) n) false && list_all inner (take n (a ∷ b ∷ xs))) ≡ true) e h in
      let parts = both (option_map_or last (slice_get (b ∷ xs) k) false) (inner a && list_all inner (take k (b ∷ xs))) moved in
      let inners = both (inner a) (list_all inner (take k (b ∷ xs))) parts.1 in
      (inners.0, joined (option_map_or last (slice_get (b ∷ xs) k) false) (list_all inner (take k (b ∷ xs))) parts.0 inners.1)
    where
      joined : (p q : Bool) → p ≡ true → q ≡ true → p && q ≡ true
      joined true q hp hq = hq
      joined false q hp hq = absurd (cc)
