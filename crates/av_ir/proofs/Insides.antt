-- Subscripts, one after the other.
use Rattle.std.proofs.Common.{◌≡◌, ℕ, suc, ◌+◌, ◌*◌, ◌^◌, ◌<◌, ◌≤◌, List, [], ◌∷◌, length, get_or, drop, map, arith, ap, sym, ◌∙◌, refl, subst, Some, None, if◌then◌else◌}
use Rattle.std.specs.Prelude.{ℤ, pos, negsuc, Bool, true, false, ◌&&◌, nat_lt, unsigned_abs}
use Rattle.std.proofs.lemmas.Bool.Decides.{nat_tests}
use Rattle.std.proofs.lemmas.List.{drop_more, drop_all, length-map, get_or-map}
use Rattle.std.proofs.lemmas.Int.{to_z-of_z, fits_signed_from_abs}
use mir.Syntax.{w64}
use mir.Val.{to_z, of_z}
use Rattle.av_shapes.specs.Shape.{product}
use Rattle.av_shapes.specs.Places.{IsWithin, place}
use Rattle.av_shapes.proofs.PlaceLemmas.{IsReadTo, read_more, found-below, place-below, as_many}
use Rattle.av_shapes.proofs.PlaceLemmas.{all_read as read_all}
use Rattle.av_ir.specs.Places.{is_inside, are_inside}

both : (a b : Bool) → a && b ≡ true → (a ≡ true) × (b ≡ true)
both true b h = (refl, h)
both false b h = absurd (cc)

never : (a : Bool) → a && false ≡ false
never true = refl
never false = refl

-- subscripts that are inside are within the sizes
pub inside-within : (ns : List ℕ) (zs : List ℤ) → are_inside ns zs ≡ true → IsWithin ns (map unsigned_abs zs)
inside-within [] [] h = tt
inside-within [] (z ∷ zs) h = absurd (cc)
inside-within (n ∷ ns) [] h = absurd (cc)
inside-within (n ∷ ns) (negsuc i ∷ zs) h = absurd (cc)
inside-within (n ∷ ns) (pos i ∷ zs) h = let p = both (nat_lt i n) (are_inside ns zs) h in (grind (arith, nat_tests), inside-within ns zs p.1)

-- only as many subscripts as sizes are inside
pub other-number : (ns : List ℕ) (zs : List ℤ) → (length ns ≡ length zs → ⊥) → are_inside ns zs ≡ false
other-number [] [] h = absurd (h refl)
other-number [] (z ∷ zs) h = refl
other-number (n ∷ ns) [] h = refl
other-number (n ∷ ns) (z ∷ zs) h = ap (λ b. is_inside n z && b) (other-number ns zs (λ e. h (ap suc e))) ∙ never (is_inside n z)

module _ (ns : List ℕ) (zs : List ℤ) (i n : ℕ) (z : ℤ) (below : i < length ns) (short : i < length zs) (size : n ≡ get_or ns i 0) (subscript : z ≡ get_or zs i (pos 0)) where
  at_subscript : are_inside (drop i ns) (drop i zs) ≡ is_inside n z && are_inside (drop (i + 1) ns) (drop (i + 1) zs)
  at_subscript =
      ap (λ l. are_inside l (drop i zs)) (drop_more ns i 0 below)
      ∙ ap (are_inside (get_or ns i 0 ∷ drop (i + 1) ns)) (drop_more zs i (pos 0) short)
      ∙ ap (λ k. is_inside k (get_or zs i (pos 0)) && are_inside (drop (i + 1) ns) (drop (i + 1) zs)) (sym size)
      ∙ ap (λ y. is_inside n y && are_inside (drop (i + 1) ns) (drop (i + 1) zs)) (sym subscript)

  pub one_outside : is_inside n z ≡ false → are_inside (drop i ns) (drop i zs) ≡ are_inside ns zs → are_inside ns zs ≡ false
  one_outside out h = sym h ∙ at_subscript ∙ ap (λ b. b && are_inside (drop (i + 1) ns) (drop (i + 1) zs)) out

  pub one_inside : is_inside n z ≡ true → are_inside (drop i ns) (drop i zs) ≡ are_inside ns zs
      → are_inside (drop (i + 1) ns) (drop (i + 1) zs) ≡ are_inside ns zs
  one_inside within h = sym (ap (λ b. b && are_inside (drop (i + 1) ns) (drop (i + 1) zs)) within) ∙ sym at_subscript ∙ h

pub all_read : (ns : List ℕ) (zs : List ℤ) (i : ℕ) → length ns ≤ i → length zs ≤ i → are_inside (drop i ns) (drop i zs) ≡ are_inside ns zs → are_inside ns zs ≡ true
all_read ns zs i a b h = sym h ∙ ap (λ l. are_inside l (drop i zs)) (drop_all i ns a) ∙ ap (are_inside []) (drop_all i zs b)

-- one more digit of a place: it is below the number of elements, so nothing overflows
pub record IsOneMore (ns : List ℕ) (zs : List ℤ) (d found : ℕ) (n : ℕ) (z : ℤ) : Type 0 where
  pub digit : IsReadTo ns (map unsigned_abs zs) (d + 1) (found * n + unsigned_abs z)
  pub below : found * n + unsigned_abs z < product ns

pub one_more : (ns : List ℕ) (zs : List ℤ) (d found n : ℕ) (z : ℤ) → are_inside ns zs ≡ true → d < length ns
    → n ≡ get_or ns d 0 → z ≡ get_or zs d (pos 0) → IsReadTo ns (map unsigned_abs zs) d found → IsOneMore ns zs d found n z
one_more ns zs d found n z inside below size subscript read =
    let within = inside-within ns zs inside in
    let many : length (map unsigned_abs zs) ≡ length ns = as_many ns (map unsigned_abs zs) within in
    let long : length (map unsigned_abs zs) ≡ length zs = length-map zs unsigned_abs in
    let same : unsigned_abs z ≡ get_or (map unsigned_abs zs) d 0 = ap unsigned_abs subscript ∙ sym (get_or-map unsigned_abs zs d (pos 0) 0 (omega arith)) in
    let next = read_more ns (map unsigned_abs zs) d found below (omega arith) read in
    let digit : IsReadTo ns (map unsigned_abs zs) (d + 1) (found * n + unsigned_abs z) =
    subst (λ k. IsReadTo ns (map unsigned_abs zs) (d + 1) k) (sym (ap (λ k. found * k + unsigned_abs z) size ∙ ap (λ k. found * get_or ns d 0 + k) same)) next in
    let positive : 1 ≤ product ns = let b = place-below ns (map unsigned_abs zs) within in omega arith in
    record {
      digit = digit;
      below = found-below ns (map unsigned_abs zs) (d + 1) (found * n + unsigned_abs z) positive within digit;
    }

pub in_number : (ns : List ℕ) (zs : List ℤ) → are_inside ns zs ≡ true → length zs ≡ length ns
in_number ns zs inside = sym (length-map zs unsigned_abs) ∙ as_many ns (map unsigned_abs zs) (inside-within ns zs inside)

-- where all are inside the place is the one of the whole numbers
pub found_place : (ns : List ℕ) (zs : List ℤ) (d found : ℕ) → are_inside ns zs ≡ true → length ns ≤ d → IsReadTo ns (map unsigned_abs zs) d found
    → (if are_inside ns zs then Some (place ns (map unsigned_abs zs)) else None) ≡ Some found
found_place ns zs d found inside behind read =
    ap (λ b. if b then Some (place ns (map unsigned_abs zs)) else None) inside ∙ ap Some (sym (read_all ns (map unsigned_abs zs) d found behind read))

pub no_place : (ns : List ℕ) (zs : List ℤ) → are_inside ns zs ≡ false
    → (if are_inside ns zs then Some (place ns (map unsigned_abs zs)) else None) ≡ None
no_place ns zs outside = ap (λ b. if b then Some (place ns (map unsigned_abs zs)) else None) outside

-- a subscript below a number of elements keeps its value in a machine word
pub subscript_kept : (z : ℤ) → unsigned_abs z ≤ 2 ^ 26 → to_z w64 (of_z w64 z) ≡ z
subscript_kept z h = to_z-of_z w64 z (fits_signed_from_abs w64 z (omega arith))
