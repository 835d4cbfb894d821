-- The divisions against the laws of arithmetic.
use Rattle.std.proofs.Common.{◌≡◌, ℕ, zero, suc, min, subst, ◌+◌, ◌-◌, ◌*◌, ◌/◌, ◌%◌, ◌^◌, ◌<◌, ◌≤◌, inl, inr, refl, sym, ◌∙◌, ap, arith, Bool, true, false, ◌&&◌, ◌||◌, Ok}
use Rattle.std.specs.Prelude.{ℤ, pos, negsuc, neg_ℤ, ◌+ℤ◌, ◌-ℤ◌, ◌*ℤ◌, ◌<ℤ◌, ◌≤ℤ◌, int_div, int_rem, unsigned_abs, ◌==◌}
use Rattle.std.specs.Int.{int_div_euclid, div_ceil}
use Rattle.std.proofs.Math.Nat.{div-le_self, div-lt_self, mod-le}
use Rattle.std.proofs.lemmas.Bool.{eqb-true, eqb-false, eq-eqb, true≢false, false≢true, or_cases, and_parts, and_from}
use Rattle.std.proofs.lemmas.Nat.{mod_below, div-add-mod', pow_pos}
use Rattle.std.proofs.lemmas.Int.{ints, quot-rem, rem_below}
use Rattle.av_bits.specs.declared.types.Width.{Width}
use Rattle.av_bits.specs.Pattern.{bits_of, IsPattern, pattern_of}
use Rattle.av_bits.specs.Scalar.{floor_div, ceil_div, signed_division_traps, signed_division, trap_if}
use Rattle.av_bits.specs.Laws.{value_of, IsDivisionTowardZero, IsFloor, IsCeiling, TrapLaw, SignedDivisionLaw, RoundedDivisionLaw, UnsignedDivisionLaw}
use Rattle.av_bits.proofs.Values.{halves, signed_value-cases, signed_value-low, signed_value-high, signed_value-pattern_of, value_in_range}

-- ---- over whole numbers

pub toward_zero : (x y : ℤ) → 0 < unsigned_abs y → IsDivisionTowardZero x y (int_div x y) (int_rem x y)
toward_zero (pos a) y p =
    (quot-rem (pos a) y, rem_below (pos a) y p, λ h. omega (arith, ints), λ h. omega (arith, ints, mod-le a (unsigned_abs y)))
toward_zero (negsuc a) y p =
    (quot-rem (negsuc a) y, rem_below (negsuc a) y p, λ h. absurd (omega (arith, ints)), λ h. omega (arith, ints))

-- by a divisor above zero
floor_above : (x : ℤ) (b : ℕ) → 0 < b
    → ((int_div_euclid x (pos b) *ℤ pos b) ≤ℤ x) × (x <ℤ (int_div_euclid x (pos b) *ℤ pos b +ℤ pos b))
floor_above (pos a) b p =
    let split : a / b * b + a % b ≡ a = div-add-mod' a b in
    let below : a % b < b = mod_below a b p in
    (omega (arith, ints), omega (arith, ints))
floor_above (negsuc a) b p = below (a / b) (a % b) b a (div-add-mod' a b) (mod_below a b p)
  where
    below : (q r b a : ℕ) → q * b + r ≡ a → r < b
        → ((negsuc q *ℤ pos b) ≤ℤ negsuc a) × (negsuc a <ℤ (negsuc q *ℤ pos b +ℤ pos b))
    below q r b a e l = (omega (arith, ints), omega (arith, ints))

neg_back : (z : ℤ) → neg_ℤ (neg_ℤ z) ≡ z
neg_back z = omega (arith, ints)

times_negsuc : (q : ℤ) (b : ℕ) → q *ℤ negsuc b ≡ neg_ℤ (q *ℤ pos (suc b))
times_negsuc (pos q) b = refl
times_negsuc (negsuc q) b = sym (neg_back (pos (suc q * suc b)))

pub rounded_down : (x y : ℤ) → IsFloor x y (floor_div x y)
rounded_down x (pos b) = (λ p. floor_above x b (omega (arith, ints)), λ p. absurd (omega (arith, ints)))
rounded_down x (negsuc b) =
    let q : ℤ = int_div_euclid (neg_ℤ x) (pos (suc b)) in
    let above = floor_above (neg_ℤ x) (suc b) (omega arith) in
    (λ p. absurd (omega (arith, ints)), λ p. turned x q b above.0 above.1)
  where
    turned : (x q : ℤ) (b : ℕ) → (q *ℤ pos (suc b)) ≤ℤ neg_ℤ x → neg_ℤ x <ℤ (q *ℤ pos (suc b) +ℤ pos (suc b))
        → (x ≤ℤ (q *ℤ negsuc b)) × ((q *ℤ negsuc b +ℤ negsuc b) <ℤ x)
    turned x q b low high = rw (times_negsuc q b) (omega (arith, ints), omega (arith, ints))

neg_times : (q y : ℤ) → neg_ℤ q *ℤ y ≡ neg_ℤ (q *ℤ y)
neg_times (pos zero) (pos y) = omega (arith, ints)
neg_times (pos zero) (negsuc y) = omega (arith, ints)
neg_times (pos (suc q)) (pos y) = refl
neg_times (pos (suc q)) (negsuc y) = sym (neg_back (pos (suc q * suc y)))
neg_times (negsuc q) (pos y) = sym (neg_back (pos (suc q * y)))
neg_times (negsuc q) (negsuc y) = refl

pub rounded_up : (x y : ℤ) → IsCeiling x y (ceil_div x y)
rounded_up x y =
    let down : IsFloor (neg_ℤ x) y (floor_div (neg_ℤ x) y) = rounded_down (neg_ℤ x) y in
    (λ p. above x y (floor_div (neg_ℤ x) y) (down.0 p), λ p. below x y (floor_div (neg_ℤ x) y) (down.1 p))
  where
    above : (x y q : ℤ) → ((q *ℤ y) ≤ℤ neg_ℤ x) × (neg_ℤ x <ℤ (q *ℤ y +ℤ y))
        → (x ≤ℤ (neg_ℤ q *ℤ y)) × ((neg_ℤ q *ℤ y -ℤ y) <ℤ x)
    above x y q d = rw (neg_times q y) (omega (arith, ints, d.0, d.1), omega (arith, ints, d.0, d.1))

    below : (x y q : ℤ) → (neg_ℤ x ≤ℤ (q *ℤ y)) × ((q *ℤ y +ℤ y) <ℤ neg_ℤ x)
        → ((neg_ℤ q *ℤ y) ≤ℤ x) × (x <ℤ (neg_ℤ q *ℤ y -ℤ y))
    below x y q d = rw (neg_times q y) (omega (arith, ints, d.0, d.1), omega (arith, ints, d.0, d.1))

-- ---- a quotient lies in the range, but for the least value by -1

abbrev InRange : ℕ → ℤ → Type 0
InRange h z = (neg_ℤ (pos h) ≤ℤ z) × (z <ℤ pos h)

abbrev Divides : ℕ → ℤ → ℤ → Type 0
Divides h x y = (x ≡ neg_ℤ (pos h) → y ≡ negsuc 0 → ⊥)

-- of two numbers below zero
both_below : (h a b : ℕ) → suc a ≤ h → (suc a ≡ h → b ≡ 0 → ⊥) → suc a / suc b < h
both_below h a zero l d =
    let apart : (suc a ≡ h → ⊥) = λ e. d e refl in
    omega (arith, div-le_self (suc a) 1)
both_below h a (suc b) l d = omega (arith, div-lt_self {n = suc a} {k = suc (suc b)} (omega arith) (omega arith))

both_below_up : (h a b : ℕ) → suc a ≤ h → suc b ≤ h → (suc a ≡ h → b ≡ 0 → ⊥) → suc (a / suc b) < h
both_below_up h a zero l m d =
    let apart : (suc a ≡ h → ⊥) = λ e. d e refl in
    omega (arith, div-le_self a 1)
both_below_up h zero (suc b) l m d = omega (arith, div-le_self 0 (suc (suc b)))
both_below_up h (suc a) (suc b) l m d = omega (arith, div-lt_self {n = suc a} {k = suc (suc b)} (omega arith) (omega arith))

divides_below : (h a b : ℕ) → Divides h (negsuc a) (negsuc b) → suc a ≡ h → b ≡ 0 → ⊥
divides_below h a b d e f = d (omega (arith, ints)) (ap negsuc f)

pub int_div-in_range : (h : ℕ) (x y : ℤ) → InRange h x → InRange h y → Divides h x y → InRange h (int_div x y)
int_div-in_range h (pos a) (pos b) f g d = (omega (arith, ints, div-le_self a b, f.1), omega (arith, ints, div-le_self a b, f.1))
int_div-in_range h (pos a) (negsuc b) f g d = (omega (arith, ints, div-le_self a (suc b), f.1), omega (arith, ints, div-le_self a (suc b), f.1))
int_div-in_range h (negsuc a) (pos b) f g d = (omega (arith, ints, div-le_self (suc a) b, f.0), omega (arith, ints, div-le_self (suc a) b, f.0))
int_div-in_range h (negsuc a) (negsuc b) f g d =
    let below : suc a / suc b < h = both_below h a b (omega (arith, ints, f.0)) (divides_below h a b d) in
    (omega (arith, ints), omega (arith, ints))

pub int_rem-in_range : (h : ℕ) (x y : ℤ) → InRange h x → InRange h (int_rem x y)
int_rem-in_range h (pos a) y f = (omega (arith, ints, mod-le a (unsigned_abs y), f.1), omega (arith, ints, mod-le a (unsigned_abs y), f.1))
int_rem-in_range h (negsuc a) y f = (omega (arith, ints, mod-le (suc a) (unsigned_abs y), f.0), omega (arith, ints, mod-le (suc a) (unsigned_abs y), f.0))

pub floor_div-in_range : (h : ℕ) (x y : ℤ) → InRange h x → InRange h y → Divides h x y → InRange h (floor_div x y)
floor_div-in_range h (pos a) (pos b) f g d = (omega (arith, ints, div-le_self a b, f.1), omega (arith, ints, div-le_self a b, f.1))
floor_div-in_range h (negsuc a) (pos b) f g d = (omega (arith, ints, div-le_self a b, f.0), omega (arith, ints, div-le_self a b, f.0))
floor_div-in_range h (pos zero) (negsuc b) f g d = (omega (arith, ints, div-le_self 0 (suc b), f.1), omega (arith, ints, div-le_self 0 (suc b), f.1))
floor_div-in_range h (pos (suc a)) (negsuc b) f g d = (omega (arith, ints, div-le_self a (suc b), f.1), omega (arith, ints, div-le_self a (suc b), f.1))
floor_div-in_range h (negsuc a) (negsuc b) f g d =
    let below : suc a / suc b < h = both_below h a b (omega (arith, ints, f.0)) (divides_below h a b d) in
    (omega (arith, ints), omega (arith, ints))

pub ceil_div-in_range : (h : ℕ) (x y : ℤ) → InRange h x → InRange h y → Divides h x y → InRange h (ceil_div x y)
ceil_div-in_range h (pos zero) (pos b) f g d = (omega (arith, ints, div-le_self 0 b, f.1), omega (arith, ints, div-le_self 0 b, f.1))
ceil_div-in_range h (pos zero) (negsuc b) f g d = (omega (arith, ints, div-le_self 0 (suc b), f.1), omega (arith, ints, div-le_self 0 (suc b), f.1))
ceil_div-in_range h (pos (suc a)) (pos b) f g d = (omega (arith, ints, div-le_self a b, f.1), omega (arith, ints, div-le_self a b, f.1))
ceil_div-in_range h (pos (suc a)) (negsuc b) f g d = (omega (arith, ints, div-le_self (suc a) (suc b), f.1), omega (arith, ints, div-le_self (suc a) (suc b), f.1))
ceil_div-in_range h (negsuc a) (pos b) f g d = (omega (arith, ints, div-le_self (suc a) b, f.0), omega (arith, ints, div-le_self (suc a) b, f.0))
ceil_div-in_range h (negsuc a) (negsuc b) f g d =
    let below : suc (a / suc b) < h = both_below_up h a b (omega (arith, ints, f.0)) (omega (arith, ints, g.0)) (divides_below h a b d) in
    (omega (arith, ints), omega (arith, ints))

-- ---- on patterns

trap_if-ok : (t : Bool) (p q : ℕ) → trap_if t p ≡ Ok q → (t ≡ false) × (p ≡ q)
trap_if-ok true p q e = cc
trap_if-ok false p q e = (refl, cc)

no_trap_parts : (x y z : Bool) → (x || (y && z)) ≡ false → (x ≡ false) × (y ≡ true → z ≡ true → ⊥)
no_trap_parts true y z e = absurd (true≢false e)
no_trap_parts false true true e = absurd (true≢false e)
no_trap_parts false true false e = (refl, λ h k. false≢true k)
no_trap_parts false false z e = (refl, λ h k. false≢true h)

-- what a division that doesn't trap may rely on
no_trap : (k a b : ℕ) → signed_division_traps k a b ≡ false → (b ≡ 0 → ⊥) × (a ≡ 2 ^ (k - 1) → b ≡ 2 ^ k - 1 → ⊥)
no_trap k a b e =
    let parts = no_trap_parts (b == 0) (a == 2 ^ (k - 1)) (b == 2 ^ k - 1) e in
    (eqb-false b 0 parts.0, λ p q. parts.1 (eq-eqb a (2 ^ (k - 1)) p) (eq-eqb b (2 ^ k - 1) q))

-- the patterns of 0, of the least value and of -1
low_least : (a h : ℕ) → 0 < h → pos a ≡ neg_ℤ (pos h) → ⊥
low_least a h p e = absurd (omega (arith, ints))

high_least : (a h m : ℕ) → m ≡ h + h → a < m → h ≤ a → negsuc (m - suc a) ≡ neg_ℤ (pos h) → a ≡ h
high_least a h m d l p e = omega (arith, ints)

high_minus_one : (b m : ℕ) → b < m → negsuc (m - suc b) ≡ negsuc 0 → b ≡ m - 1
high_minus_one b m l e = omega (arith, ints)

from_zero : (w : Width) (b : ℕ) → IsPattern w b → value_of w b ≡ pos 0 → b ≡ 0
from_zero w b below e =
    elim (signed_value-cases (bits_of w) b below) [
      | inl c ↦ let f : pos b ≡ pos 0 = sym c.1 ∙ e in cc
      | inr c ↦ let f : negsuc (2 ^ bits_of w - suc b) ≡ pos 0 = sym c.1 ∙ e in cc
    ]

from_least : (w : Width) (a : ℕ) → IsPattern w a → value_of w a ≡ neg_ℤ (pos (2 ^ (bits_of w - 1))) → a ≡ 2 ^ (bits_of w - 1)
from_least w a below e =
    elim (signed_value-cases (bits_of w) a below) [
      | inl c ↦ absurd (low_least a (2 ^ (bits_of w - 1)) (pow_pos (bits_of w - 1)) (sym c.1 ∙ e))
      | inr c ↦ high_least a (2 ^ (bits_of w - 1)) (2 ^ bits_of w) (halves w) below c.0 (sym c.1 ∙ e)
    ]

from_minus_one : (w : Width) (b : ℕ) → IsPattern w b → value_of w b ≡ negsuc 0 → b ≡ 2 ^ bits_of w - 1
from_minus_one w b below e =
    elim (signed_value-cases (bits_of w) b below) [
      | inl c ↦ let f : pos b ≡ negsuc 0 = sym c.1 ∙ e in cc
      | inr c ↦ high_minus_one b (2 ^ bits_of w) below (sym c.1 ∙ e)
    ]

pub value-least : (w : Width) → value_of w (2 ^ (bits_of w - 1)) ≡ neg_ℤ (pos (2 ^ (bits_of w - 1)))
value-least w =
    signed_value-high (bits_of w) (2 ^ (bits_of w - 1)) (omega arith) (omega (arith, halves w, pow_pos (bits_of w - 1)))
    ∙ half (2 ^ (bits_of w - 1)) (2 ^ bits_of w) (pow_pos (bits_of w - 1)) (halves w)
  where
    half : (h m : ℕ) → 0 < h → m ≡ h + h → negsuc (m - suc h) ≡ neg_ℤ (pos h)
    half h m p e = omega (arith, ints)

value-minus_one : (w : Width) → value_of w (2 ^ bits_of w - 1) ≡ negsuc 0
value-minus_one w =
    signed_value-high (bits_of w) (2 ^ bits_of w - 1) (omega (arith, halves w, pow_pos (bits_of w - 1))) (omega (arith, pow_pos (bits_of w)))
    ∙ ap negsuc (none (2 ^ bits_of w) (pow_pos (bits_of w)))
  where
    none : (m : ℕ) → 0 < m → m - suc (m - 1) ≡ 0
    none m p = omega arith

or_left : (x y : Bool) → x ≡ true → (x || y) ≡ true
or_left true y e = refl
or_left false y e = absurd (false≢true e)

or_right : (x y : Bool) → y ≡ true → (x || y) ≡ true
or_right true y e = refl
or_right false y e = e

pub traps_where : TrapLaw
traps_where w a b pa pb = (
  λ e. elim (or_cases (b == 0) ((a == 2 ^ (bits_of w - 1)) && (b == 2 ^ bits_of w - 1)) e) [
    | inl z ↦ inl (ap (value_of w) (eqb-true b 0 z) ∙ signed_value-low (bits_of w) 0 (pow_pos (bits_of w - 1)))
    | inr z ↦
        let both = and_parts (a == 2 ^ (bits_of w - 1)) (b == 2 ^ bits_of w - 1) z in
        inr (
          ap (value_of w) (eqb-true a (2 ^ (bits_of w - 1)) both.0) ∙ value-least w,
          ap (value_of w) (eqb-true b (2 ^ bits_of w - 1) both.1) ∙ value-minus_one w,
        )
  ],
  λ d. elim d [
    | inl z ↦ or_left (b == 0) ((a == 2 ^ (bits_of w - 1)) && (b == 2 ^ bits_of w - 1)) (eq-eqb b 0 (from_zero w b pb z))
    | inr z ↦
        or_right (b == 0) ((a == 2 ^ (bits_of w - 1)) && (b == 2 ^ bits_of w - 1))
        (and_from (a == 2 ^ (bits_of w - 1)) (b == 2 ^ bits_of w - 1)
        (eq-eqb a (2 ^ (bits_of w - 1)) (from_least w a pa z.0))
        (eq-eqb b (2 ^ bits_of w - 1) (from_minus_one w b pb z.1)))
  ],
)

nonzero_value : (w : Width) (b : ℕ) → IsPattern w b → (b ≡ 0 → ⊥) → 0 < unsigned_abs (value_of w b)
nonzero_value w b below apart =
    elim (signed_value-cases (bits_of w) b below) [
      | inl c ↦ subst (λ z. 0 < unsigned_abs z) (sym c.1) (omega (arith, apart))
      | inr c ↦ subst (λ z. 0 < unsigned_abs z) (sym c.1) (omega arith)
    ]

-- the value of a signed quotient or remainder, which lies in the range
result_value : (w : Width) (divide : ℤ → ℤ → ℤ) (a b q : ℕ) → IsPattern w a → IsPattern w b
    → ((x y : ℤ) → InRange (2 ^ (bits_of w - 1)) x → InRange (2 ^ (bits_of w - 1)) y → Divides (2 ^ (bits_of w - 1)) x y
    → InRange (2 ^ (bits_of w - 1)) (divide x y))
    → signed_division divide (bits_of w) a b ≡ Ok q
    → (0 < unsigned_abs (value_of w b)) × (value_of w q ≡ divide (value_of w a) (value_of w b))
result_value w divide a b q pa pb fits e =
    let parts = trap_if-ok (signed_division_traps (bits_of w) a b) (pattern_of (bits_of w) (divide (value_of w a) (value_of w b))) q e in
    let safe = no_trap (bits_of w) a b parts.0 in
    let divides : Divides (2 ^ (bits_of w - 1)) (value_of w a) (value_of w b) = λ x y. safe.1 (from_least w a pa x) (from_minus_one w b pb y) in (
      nonzero_value w b pb safe.0,
      ap (value_of w) (sym parts.1)
          ∙ signed_value-pattern_of w (divide (value_of w a) (value_of w b))
          (fits (value_of w a) (value_of w b) (value_in_range w a pa) (value_in_range w b pb) divides),
    )

pub divides_toward_zero : SignedDivisionLaw
divides_toward_zero w a b q r pa pb eq er =
    let x : ℤ = value_of w a in
    let y : ℤ = value_of w b in
    let quotient = result_value w int_div a b q pa pb (int_div-in_range (2 ^ (bits_of w - 1))) eq in
    let rest = result_value w int_rem a b r pa pb (λ x y f g d. int_rem-in_range (2 ^ (bits_of w - 1)) x y f) er in
    subst (λ z. IsDivisionTowardZero x y z (value_of w r)) (sym quotient.1)
    (subst (λ z. IsDivisionTowardZero x y (int_div x y) z) (sym rest.1) (toward_zero x y quotient.0))

pub rounds_down_and_up : RoundedDivisionLaw
rounds_down_and_up w a b q pa pb = (
  λ e.
      let down = result_value w floor_div a b q pa pb (floor_div-in_range (2 ^ (bits_of w - 1))) e in
      subst (λ z. IsFloor (value_of w a) (value_of w b) z) (sym down.1) (rounded_down (value_of w a) (value_of w b)),
  λ e.
      let up = result_value w ceil_div a b q pa pb (ceil_div-in_range (2 ^ (bits_of w - 1))) e in
      subst (λ z. IsCeiling (value_of w a) (value_of w b) z) (sym up.1) (rounded_up (value_of w a) (value_of w b)),
)

ceiling : (q r b a : ℕ) → q * b + r ≡ a → r < b → (a ≤ (q + min 1 r) * b) × ((q + min 1 r) * b < a + b)
ceiling q zero b a e l = (omega arith, omega arith)
ceiling q (suc r) b a e l =
    let one : min 1 (suc r) ≡ 1 = omega arith in
    rw one (omega arith, omega arith)

pub divides_unsigned : UnsignedDivisionLaw
divides_unsigned w a b q r c eq er ec =
    let quotient = trap_if-ok (b == 0) (a / b) q eq in
    let rest = trap_if-ok (b == 0) (a % b) r er in
    let up = trap_if-ok (b == 0) (div_ceil a b) c ec in
    let above : 0 < b = omega (arith, eqb-false b 0 quotient.0) in
    let bounds = ceiling (a / b) (a % b) b a (div-add-mod' a b) (mod_below a b above) in (
      subst (λ z. z * b + r ≡ a) quotient.1 (subst (λ z. a / b * b + z ≡ a) rest.1 (div-add-mod' a b)),
      subst (λ z. z < b) rest.1 (mod_below a b above),
      subst (λ z. a ≤ z * b) up.1 bounds.0,
      subst (λ z. z * b < a + b) up.1 bounds.1,
    )
