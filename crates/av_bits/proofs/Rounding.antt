-- The quotient that is rounded down or up, from the one that is rounded toward zero and its remainder.
use Rattle.std.proofs.Common.{◌≡◌, ℕ, zero, suc, ◌+◌, ◌*◌, ◌/◌, ◌%◌, ◌<◌, refl, sym, ◌∙◌, ap, arith}
use Rattle.std.specs.Prelude.{ℤ, pos, negsuc, neg_ℤ, ◌+ℤ◌, ◌-ℤ◌, ◌<ℤ◌, ◌≤ℤ◌, int_div, int_rem}
use Rattle.std.proofs.Math.Nat.{div-eq_of_lt-le, suc-mul, zero-mul}
use Rattle.std.proofs.lemmas.Nat.{mod_below, div-add-mod'}
use Rattle.std.proofs.lemmas.Int.{ints}
use Rattle.av_bits.specs.Scalar.{floor_div, ceil_div}

-- one more than a number that the divisor doesn't reach has the same quotient
pub quotient-suc_within : (a m : ℕ) → 0 < m → 0 < suc a % m → suc a / m ≡ a / m
quotient-suc_within a m p r =
    let split : suc a / m * m + suc a % m ≡ suc a = div-add-mod' (suc a) m in
    let below : suc a % m < m = mod_below (suc a) m p in
    sym (div-eq_of_lt-le m (omega arith) (omega arith))

-- and at a multiple of the divisor it is one more
pub quotient-suc_full : (a m : ℕ) → 0 < m → suc a % m ≡ 0 → suc a / m ≡ suc (a / m)
quotient-suc_full a m p r = whole (suc a / m) (omega (arith, div-add-mod' (suc a) m))
  where
    whole : (q : ℕ) → q * m ≡ suc a → q ≡ suc (a / m)
    whole zero e = omega (arith, zero-mul m)
    whole (suc q) e = ap suc (sym (div-eq_of_lt-le m (omega (arith, suc-mul q m)) (omega (arith, suc-mul q m))))

neg_less_one : (n : ℕ) → neg_ℤ (pos n) -ℤ pos 1 ≡ negsuc n
neg_less_one n = omega (arith, ints)

pub floor_div-above_inexact : (x y : ℤ) → pos 0 <ℤ y → int_rem x y <ℤ pos 0 → floor_div x y ≡ int_div x y -ℤ pos 1
floor_div-above_inexact (pos a) (pos b) p r = absurd (omega (arith, ints))
floor_div-above_inexact (pos a) (negsuc b) p r = absurd (omega (arith, ints))
floor_div-above_inexact (negsuc a) (negsuc b) p r = absurd (omega (arith, ints))
floor_div-above_inexact (negsuc a) (pos b) p r =
    let same : suc a / b ≡ a / b = quotient-suc_within a b (omega (arith, ints)) (omega (arith, ints)) in
    sym (neg_less_one (a / b)) ∙ ap (λ n. neg_ℤ (pos n) -ℤ pos 1) (sym same)

pub floor_div-above_exact : (x y : ℤ) → pos 0 <ℤ y → pos 0 ≤ℤ int_rem x y → floor_div x y ≡ int_div x y
floor_div-above_exact (pos a) (pos b) p r = refl
floor_div-above_exact (pos a) (negsuc b) p r = absurd (omega (arith, ints))
floor_div-above_exact (negsuc a) (negsuc b) p r = absurd (omega (arith, ints))
floor_div-above_exact (negsuc a) (pos b) p r =
    let full : suc a / b ≡ suc (a / b) = quotient-suc_full a b (omega (arith, ints)) (omega (arith, ints)) in
    ap (λ n. neg_ℤ (pos n)) (sym full)

pub floor_div-below_inexact : (x y : ℤ) → y <ℤ pos 0 → pos 0 <ℤ int_rem x y → floor_div x y ≡ int_div x y -ℤ pos 1
floor_div-below_inexact x (pos b) p r = absurd (omega (arith, ints))
floor_div-below_inexact (negsuc a) (negsuc b) p r = absurd (omega (arith, ints))
floor_div-below_inexact (pos zero) (negsuc b) p r = absurd (omega (arith, ints))
floor_div-below_inexact (pos (suc a)) (negsuc b) p r =
    let same : suc a / suc b ≡ a / suc b = quotient-suc_within a (suc b) (omega arith) (omega (arith, ints)) in
    sym (neg_less_one (a / suc b)) ∙ ap (λ n. neg_ℤ (pos n) -ℤ pos 1) (sym same)

pub floor_div-below_exact : (x y : ℤ) → y <ℤ pos 0 → int_rem x y ≤ℤ pos 0 → floor_div x y ≡ int_div x y
floor_div-below_exact x (pos b) p r = absurd (omega (arith, ints))
floor_div-below_exact (negsuc a) (negsuc b) p r = refl
floor_div-below_exact (pos zero) (negsuc b) p r = omega (arith, ints)
floor_div-below_exact (pos (suc a)) (negsuc b) p r =
    let full : suc a / suc b ≡ suc (a / suc b) = quotient-suc_full a (suc b) (omega arith) (omega (arith, ints)) in
    ap (λ n. neg_ℤ (pos n)) (sym full)

-- of the opposite dividend
neg_back : (z : ℤ) → neg_ℤ (neg_ℤ z) ≡ z
neg_back z = omega (arith, ints)

neg_minus_one : (z : ℤ) → neg_ℤ (neg_ℤ z -ℤ pos 1) ≡ z +ℤ pos 1
neg_minus_one z = omega (arith, ints)

int_div-neg : (x y : ℤ) → int_div (neg_ℤ x) y ≡ neg_ℤ (int_div x y)
int_div-neg (pos zero) (pos b) = omega (arith, ints)
int_div-neg (pos zero) (negsuc b) = omega (arith, ints)
int_div-neg (pos (suc a)) (pos b) = refl
int_div-neg (pos (suc a)) (negsuc b) = sym (neg_back (pos (suc a / suc b)))
int_div-neg (negsuc a) (pos b) = sym (neg_back (pos (suc a / b)))
int_div-neg (negsuc a) (negsuc b) = refl

int_rem-neg : (x y : ℤ) → int_rem (neg_ℤ x) y ≡ neg_ℤ (int_rem x y)
int_rem-neg (pos zero) y = omega (arith, ints)
int_rem-neg (pos (suc a)) y = refl
int_rem-neg (negsuc a) y = omega (arith, ints)

-- ceil_div x y is neg_ℤ (floor_div (neg_ℤ x) y)
pub ceil_div-above_inexact : (x y : ℤ) → pos 0 <ℤ y → pos 0 <ℤ int_rem x y → ceil_div x y ≡ int_div x y +ℤ pos 1
ceil_div-above_inexact x y p r =
    let opposite : int_rem (neg_ℤ x) y <ℤ pos 0 = rw (int_rem-neg x y) (omega (arith, ints)) in
    let down : floor_div (neg_ℤ x) y ≡ neg_ℤ (int_div x y) -ℤ pos 1 = floor_div-above_inexact (neg_ℤ x) y p opposite ∙ ap (λ z. z -ℤ pos 1) (int_div-neg x y) in
    ap neg_ℤ down ∙ neg_minus_one (int_div x y)

pub ceil_div-above_exact : (x y : ℤ) → pos 0 <ℤ y → int_rem x y ≤ℤ pos 0 → ceil_div x y ≡ int_div x y
ceil_div-above_exact x y p r =
    let opposite : pos 0 ≤ℤ int_rem (neg_ℤ x) y = rw (int_rem-neg x y) (omega (arith, ints)) in
    ap neg_ℤ (floor_div-above_exact (neg_ℤ x) y p opposite ∙ int_div-neg x y) ∙ neg_back (int_div x y)

pub ceil_div-below_inexact : (x y : ℤ) → y <ℤ pos 0 → int_rem x y <ℤ pos 0 → ceil_div x y ≡ int_div x y +ℤ pos 1
ceil_div-below_inexact x y p r =
    let opposite : pos 0 <ℤ int_rem (neg_ℤ x) y = rw (int_rem-neg x y) (omega (arith, ints)) in
    let down : floor_div (neg_ℤ x) y ≡ neg_ℤ (int_div x y) -ℤ pos 1 = floor_div-below_inexact (neg_ℤ x) y p opposite ∙ ap (λ z. z -ℤ pos 1) (int_div-neg x y) in
    ap neg_ℤ down ∙ neg_minus_one (int_div x y)

pub ceil_div-below_exact : (x y : ℤ) → y <ℤ pos 0 → pos 0 ≤ℤ int_rem x y → ceil_div x y ≡ int_div x y
ceil_div-below_exact x y p r =
    let opposite : int_rem (neg_ℤ x) y ≤ℤ pos 0 = rw (int_rem-neg x y) (omega (arith, ints)) in
    ap neg_ℤ (floor_div-below_exact (neg_ℤ x) y p opposite ∙ int_div-neg x y) ∙ neg_back (int_div x y)
