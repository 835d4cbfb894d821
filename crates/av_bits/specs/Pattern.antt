-- Integers of a width: bit patterns, and the whole numbers that they stand for in two's complement.
use Rattle.std.specs.Prelude.{ℕ, ◌-◌, ◌^◌, ◌<◌, ℤ, pos, ◌-ℤ◌, nat_lt, if◌then◌else◌, unsigned_abs}
use Rattle.std.specs.Int.{int_rem_euclid}
use Rattle.av_bits.specs.declared.types.Width.{Width}
use Rattle.av_bits.specs.declared.types.Width.TheVariants.{W1, W8, W16, W32, W64}

-- the number of bits of a width
abbrev pub bits_of : Width → ℕ
bits_of W1 = 1
bits_of W8 = 8
bits_of W16 = 16
bits_of W32 = 32
bits_of W64 = 64

-- p is a pattern of the width: a whole number that its bits can spell
abbrev pub IsPattern : Width → ℕ → Type 0
IsPattern w p = p < 2 ^ bits_of w

-- z modulo 2 ^ k, from 0 to 2 ^ k - 1: the pattern of k bits that stands for z
abbrev pub pattern_of : ℕ → ℤ → ℕ
pattern_of k z = unsigned_abs (int_rem_euclid z (pos (2 ^ k)))

-- the signed value of a pattern of k bits, in two's complement
abbrev pub signed_value : ℕ → ℕ → ℤ
signed_value k p = if nat_lt p (2 ^ (k - 1)) then pos p else (pos p -ℤ pos (2 ^ k))
