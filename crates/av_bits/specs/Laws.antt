-- Laws above the tables, in the words of arithmetic.
use Rattle.std.specs.Prelude.{◌≡◌, ℕ, ◌+◌, ◌-◌, ◌*◌, ◌^◌, ◌<◌, ◌≤◌, ℤ, pos, negsuc, neg_ℤ, ◌+ℤ◌, ◌-ℤ◌, ◌*ℤ◌, ◌<ℤ◌, ◌≤ℤ◌, unsigned_abs, ◌↔◌, ◌⊎◌, IsTrue, Ok}
use Rattle.av_bits.specs.declared.types.Width.{Width}
use Rattle.av_bits.specs.declared.types.BinOp.TheVariants.{Divsi, Divui, Remsi, Remui, Floordivsi, Ceildivsi, Ceildivui}
use Rattle.av_bits.specs.declared.types.Kind9.{Kind9}
use Rattle.av_bits.specs.Pattern.{bits_of, IsPattern, pattern_of, signed_value}
use Rattle.av_bits.specs.Scalar.{binary_of, signed_division_traps}
use Rattle.av_bits.specs.Kinds.{combine_of, neutral_of, operation_of}

-- the value of a pattern, and the range of these values
abbrev pub value_of : Width → ℕ → ℤ
value_of w p = signed_value (bits_of w) p

abbrev pub IsSignedValue : Width → ℤ → Type 0
IsSignedValue w z = (neg_ℤ (pos (2 ^ (bits_of w - 1))) ≤ℤ z) × (z <ℤ pos (2 ^ (bits_of w - 1)))

-- a number and its pattern differ by a multiple of 2 to the width
abbrev pub WrapLaw : Type 0
WrapLaw =
    (w : Width) (z : ℤ)
    → IsPattern w (pattern_of (bits_of w) z)
    × ((n : ℤ) × (z ≡ n *ℤ pos (2 ^ bits_of w) +ℤ pos (pattern_of (bits_of w) z)))

-- patterns and signed values are in one-to-one correspondence
abbrev pub SignedLaw : Type 0
SignedLaw =
    (w : Width)
    → ((p : ℕ) → IsPattern w p → IsSignedValue w (value_of w p) × (pattern_of (bits_of w) (value_of w p) ≡ p))
    × ((z : ℤ) → IsSignedValue w z → value_of w (pattern_of (bits_of w) z) ≡ z)

-- a signed division traps exactly where the divisor is zero or the least value is divided by -1
abbrev pub TrapLaw : Type 0
TrapLaw =
    (w : Width) (a b : ℕ) → IsPattern w a → IsPattern w b
    → IsTrue (signed_division_traps (bits_of w) a b)
    ↔ ((value_of w b ≡ pos 0) ⊎ ((value_of w a ≡ neg_ℤ (pos (2 ^ (bits_of w - 1)))) × (value_of w b ≡ negsuc 0)))

-- q and r are x divided by y toward zero and what is left: the rest is smaller than the divisor and has
-- the sign of the dividend
abbrev pub IsDivisionTowardZero : ℤ → ℤ → ℤ → ℤ → Type 0
IsDivisionTowardZero x y q r =
    (q *ℤ y +ℤ r ≡ x) × (unsigned_abs r < unsigned_abs y) × (pos 0 ≤ℤ x → pos 0 ≤ℤ r) × (x ≤ℤ pos 0 → r ≤ℤ pos 0)

abbrev pub SignedDivisionLaw : Type 0
SignedDivisionLaw =
    (w : Width) (a b q r : ℕ) → IsPattern w a → IsPattern w b
    → binary_of Divsi w a b ≡ Ok q → binary_of Remsi w a b ≡ Ok r
    → IsDivisionTowardZero (value_of w a) (value_of w b) (value_of w q) (value_of w r)

-- q is x / y rounded down: q ≤ x / y < q + 1, multiplied by y
abbrev pub IsFloor : ℤ → ℤ → ℤ → Type 0
IsFloor x y q =
    (pos 0 <ℤ y → ((q *ℤ y) ≤ℤ x) × (x <ℤ (q *ℤ y +ℤ y)))
    × (y <ℤ pos 0 → (x ≤ℤ (q *ℤ y)) × ((q *ℤ y +ℤ y) <ℤ x))

-- q is x / y rounded up: q - 1 < x / y ≤ q, multiplied by y
abbrev pub IsCeiling : ℤ → ℤ → ℤ → Type 0
IsCeiling x y q =
    (pos 0 <ℤ y → (x ≤ℤ (q *ℤ y)) × ((q *ℤ y -ℤ y) <ℤ x))
    × (y <ℤ pos 0 → ((q *ℤ y) ≤ℤ x) × (x <ℤ (q *ℤ y -ℤ y)))

abbrev pub RoundedDivisionLaw : Type 0
RoundedDivisionLaw =
    (w : Width) (a b q : ℕ) → IsPattern w a → IsPattern w b
    → (binary_of Floordivsi w a b ≡ Ok q → IsFloor (value_of w a) (value_of w b) (value_of w q))
    × (binary_of Ceildivsi w a b ≡ Ok q → IsCeiling (value_of w a) (value_of w b) (value_of w q))

-- the unsigned divisions, the last one rounded up
abbrev pub UnsignedDivisionLaw : Type 0
UnsignedDivisionLaw =
    (w : Width) (a b q r c : ℕ)
    → binary_of Divui w a b ≡ Ok q → binary_of Remui w a b ≡ Ok r → binary_of Ceildivui w a b ≡ Ok c
    → (q * b + r ≡ a) × (r < b) × (a ≤ c * b) × (c * b < a + b)

-- on patterns each kind combines without a trap, in any order and grouping, and has its neutral element
abbrev pub KindLaw : Type 0
KindLaw =
    (kind : Kind9) (w : Width) (a b c : ℕ) → IsPattern w a → IsPattern w b → IsPattern w c
    → (binary_of (operation_of kind) w a b ≡ Ok (combine_of kind w a b))
    × IsPattern w (combine_of kind w a b)
    × (combine_of kind w a b ≡ combine_of kind w b a)
    × (combine_of kind w (combine_of kind w a b) c ≡ combine_of kind w a (combine_of kind w b c))
    × (combine_of kind w (neutral_of kind w) a ≡ a)
