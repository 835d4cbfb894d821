-- Patterns of k bits and their signed values, where k is at least 1.
use Rattle.std.proofs.Common.{◌≡◌, ℕ, suc, ◌+◌, ◌-◌, ◌*◌, ◌/◌, ◌%◌, ◌^◌, ◌<◌, ◌≤◌, ◌⊎◌, inl, inr, refl, sym, ◌∙◌, ap, arith, ltb}
use Rattle.std.specs.Prelude.{ℤ, pos, negsuc, ◌+ℤ◌, ◌-ℤ◌, ◌*ℤ◌}
use Rattle.std.proofs.Math.Nat.{mod-eq_of_lt}
use Rattle.std.proofs.lemmas.Bool.{cond-true, cond-false, lt-ltb, le-ltb, cases_lt}
use Rattle.std.proofs.lemmas.Nat.{mod_below, div-add-mod', pow_pos}
use Rattle.std.proofs.lemmas.Int.{ints}
use Rattle.av_bits.specs.declared.types.Width.{Width}
use Rattle.av_bits.specs.declared.types.Width.TheVariants.{W1, W8, W16, W32, W64}
use Rattle.av_bits.specs.Pattern.{bits_of, IsPattern, pattern_of, signed_value}
use Rattle.av_bits.specs.Laws.{IsSignedValue, WrapLaw, SignedLaw, value_of}

-- half of the patterns have a top bit
pub halves : (w : Width) → 2 ^ bits_of w ≡ 2 ^ (bits_of w - 1) + 2 ^ (bits_of w - 1)
halves W1 = refl
halves W8 = refl
halves W16 = refl
halves W32 = refl
halves W64 = refl

pub signed_value-low : (k p : ℕ) → p < 2 ^ (k - 1) → signed_value k p ≡ pos p
signed_value-low k p low = cond-true (ltb p (2 ^ (k - 1))) (pos p) (pos p -ℤ pos (2 ^ k)) (lt-ltb p (2 ^ (k - 1)) low)

minus_above : (p m : ℕ) → p < m → pos p -ℤ pos m ≡ negsuc (m - suc p)
minus_above p m below = omega (arith, ints)

pub signed_value-high : (k p : ℕ) → 2 ^ (k - 1) ≤ p → p < 2 ^ k → signed_value k p ≡ negsuc (2 ^ k - suc p)
signed_value-high k p high below =
    cond-false (ltb p (2 ^ (k - 1))) (pos p) (pos p -ℤ pos (2 ^ k)) (le-ltb p (2 ^ (k - 1)) high) ∙ minus_above p (2 ^ k) below

-- a pattern by its top bit
pub signed_value-cases : (k p : ℕ) → p < 2 ^ k
    → ((p < 2 ^ (k - 1)) × (signed_value k p ≡ pos p)) ⊎ ((2 ^ (k - 1) ≤ p) × (signed_value k p ≡ negsuc (2 ^ k - suc p)))
signed_value-cases k p below =
    elim (cases_lt p (2 ^ (k - 1))) [
      | inl low ↦ inl (low, signed_value-low k p low)
      | inr high ↦ inr (high, signed_value-high k p high below)
    ]

pub pattern_of-pos : (k n : ℕ) → n < 2 ^ k → pattern_of k (pos n) ≡ n
pattern_of-pos k n below = mod-eq_of_lt below

pub pattern_of-negsuc : (k n : ℕ) → n < 2 ^ k → pattern_of k (negsuc n) ≡ 2 ^ k - suc n
pattern_of-negsuc k n below =
    let small : n % 2 ^ k ≡ n = mod-eq_of_lt below in
    omega arith

pub IsPattern-pattern_of : (k : ℕ) (z : ℤ) → pattern_of k z < 2 ^ k
IsPattern-pattern_of k (pos n) = mod_below n (2 ^ k) (pow_pos k)
IsPattern-pattern_of k (negsuc n) = omega (arith, pow_pos k)

-- z is so many times 2 ^ k, plus its pattern
multiple : (k : ℕ) (z : ℤ) → (n : ℤ) × (z ≡ n *ℤ pos (2 ^ k) +ℤ pos (pattern_of k z))
multiple k (pos n) = (pos (n / 2 ^ k), ap pos (sym (div-add-mod' n (2 ^ k))))
multiple k (negsuc n) = (negsuc (n / 2 ^ k), below (n / 2 ^ k) (n % 2 ^ k) (2 ^ k) n (div-add-mod' n (2 ^ k)) (mod_below n (2 ^ k) (pow_pos k)))
  where
    below : (q r m n : ℕ) → q * m + r ≡ n → r < m → negsuc n ≡ negsuc q *ℤ pos m +ℤ pos (m - 1 - r)
    below q r m n e l = omega (arith, ints)

pub wraps_by_multiples : WrapLaw
wraps_by_multiples w z = (IsPattern-pattern_of (bits_of w) z, multiple (bits_of w) z)

pub value_in_range : (w : Width) (p : ℕ) → IsPattern w p → IsSignedValue w (value_of w p)
value_in_range w p below =
    elim (signed_value-cases (bits_of w) p below) [
      | inl c ↦ rw c.1 (omega (arith, ints), omega (arith, ints))
      | inr c ↦ rw c.1 (omega (arith, ints, halves w), omega (arith, ints, halves w))
    ]

pub pattern_of-signed_value : (w : Width) (p : ℕ) → IsPattern w p → pattern_of (bits_of w) (value_of w p) ≡ p
pattern_of-signed_value w p below =
    elim (signed_value-cases (bits_of w) p below) [
      | inl c ↦ ap (pattern_of (bits_of w)) c.1 ∙ pattern_of-pos (bits_of w) p below
      | inr c ↦
          ap (pattern_of (bits_of w)) c.1
          ∙ pattern_of-negsuc (bits_of w) (2 ^ bits_of w - suc p) (omega arith)
          ∙ back p (2 ^ bits_of w) below
    ]
  where
    back : (p m : ℕ) → p < m → m - suc (m - suc p) ≡ p
    back p m l = omega arith

pub signed_value-pattern_of : (w : Width) (z : ℤ) → IsSignedValue w z → value_of w (pattern_of (bits_of w) z) ≡ z
signed_value-pattern_of w (pos n) fits =
    let low : n < 2 ^ (bits_of w - 1) = omega (arith, ints, fits.1) in
    ap (value_of w) (pattern_of-pos (bits_of w) n (omega (arith, halves w))) ∙ signed_value-low (bits_of w) n low
signed_value-pattern_of w (negsuc n) fits =
    let low : n < 2 ^ (bits_of w - 1) = omega (arith, ints, fits.0) in
    ap (value_of w) (pattern_of-negsuc (bits_of w) n (omega (arith, halves w)))
    ∙ signed_value-high (bits_of w) (2 ^ bits_of w - suc n) (omega (arith, halves w)) (omega (arith, halves w))
    ∙ ap negsuc (back n (2 ^ bits_of w) (omega (arith, halves w)))
  where
    back : (n m : ℕ) → n < m → m - suc (m - suc n) ≡ n
    back n m l = omega arith

pub patterns_and_values : SignedLaw
patterns_and_values w =
    (λ p below. (value_in_range w p below, pattern_of-signed_value w p below), λ z fits. signed_value-pattern_of w z fits)
