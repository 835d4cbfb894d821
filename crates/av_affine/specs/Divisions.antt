-- The divisions of expressions in the words of arithmetic.
use Rattle.std.specs.Prelude.{◌≡◌, ℤ, pos, ◌+ℤ◌, ◌-ℤ◌, ◌*ℤ◌, ◌<ℤ◌, ◌≤ℤ◌}
use Rattle.av_affine.specs.Values.{floor_quotient, ceil_quotient, remainder}

-- the quotient times the divisor plus the remainder is the number, and the remainder is from 0 to the divisor less one
abbrev pub RemainderLaw : Type 0
RemainderLaw =
    (x d : ℤ) → pos 1 ≤ℤ d
    → (floor_quotient x d *ℤ d +ℤ remainder x d ≡ x) × (pos 0 ≤ℤ remainder x d) × (remainder x d <ℤ d)

-- rounded down: q * d ≤ x < q * d + d
abbrev pub FloorLaw : Type 0
FloorLaw =
    (x d : ℤ) → pos 1 ≤ℤ d
    → ((floor_quotient x d *ℤ d) ≤ℤ x) × (x <ℤ (floor_quotient x d *ℤ d +ℤ d))

-- rounded up: q * d - d < x ≤ q * d
abbrev pub CeilLaw : Type 0
CeilLaw =
    (x d : ℤ) → pos 1 ≤ℤ d
    → (x ≤ℤ (ceil_quotient x d *ℤ d)) × ((ceil_quotient x d *ℤ d -ℤ d) <ℤ x)
