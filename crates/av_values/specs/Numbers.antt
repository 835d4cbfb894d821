-- The numbers that decimal digits spell.
use Rattle.std.specs.Prelude.{ℕ, ◌+◌, ◌-◌, ◌*◌, ◌^◌, min, ℤ, pos, neg_ℤ, Bool, if◌then◌else◌, List, [], ◌∷◌}

-- the number of the digits that stand after those of another number; the digit 0 is the byte 48
unfoldable pub number_after : ℕ → List ℕ → ℕ
number_after before [] = before
number_after before (digit ∷ digits) = number_after (before * 10 + (digit - 48)) digits

-- the number of the digits
abbrev pub number_of : List ℕ → ℕ
number_of digits = number_after 0 digits

-- the number of the digits, at most the greatest of 128 bits; that of 38 digits, as a token has at most, is less
abbrev pub spelled_number : List ℕ → ℕ
spelled_number digits = min (number_of digits) (2 ^ 128 - 1)

-- the number with its sign
abbrev pub signed : Bool → ℕ → ℤ
signed negative number = if negative then neg_ℤ (pos number) else pos number

-- the number of the digits with its sign, where one bit is the sign's
abbrev pub spelled_integer : List ℕ → Bool → ℤ
spelled_integer digits negative = signed negative (min (number_of digits) (2 ^ 127 - 1))
