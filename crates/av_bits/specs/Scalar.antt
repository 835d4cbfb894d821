-- The scalar operations of MLIR's `arith` dialect on patterns, over whole numbers.
use Rattle.std.specs.Prelude.{ℕ, suc, ◌-◌, ◌*◌, ◌/◌, ◌%◌, ◌^◌, min, max, ℤ, pos, negsuc, neg_ℤ, ◌+ℤ◌, ◌-ℤ◌, ◌*ℤ◌, int_div, int_rem, int_lt, int_le, Bool, true, false, not, ◌&&◌, ◌||◌, ◌==◌, nat_lt, nat_le, if◌then◌else◌, bit_and, bit_or, bit_xor, Result, Ok, Err}
use Rattle.std.specs.Int.{int_div_euclid, div_ceil}
use Rattle.av_bits.specs.declared.types.Width.{Width}
use Rattle.av_bits.specs.declared.types.BinOp.{BinOp}
use Rattle.av_bits.specs.declared.types.BinOp.TheVariants.{Addi, Subi, Muli, Divsi, Divui, Remsi, Remui, Floordivsi, Ceildivsi, Ceildivui, Andi, Ori, Xori, Shli, Shrsi, Shrui, Minsi, Minui, Maxsi, Maxui}
use Rattle.av_bits.specs.declared.types.Pred.{Pred}
use Rattle.av_bits.specs.declared.types.Pred.TheVariants.{Eq, Ne, Slt, Sle, Sgt, Sge, Ult, Ule, Ugt, Uge}
use Rattle.av_bits.specs.declared.types.CastOp.{CastOp}
use Rattle.av_bits.specs.declared.types.CastOp.TheVariants.{Extsi, Extui, Trunci, IndexCast, IndexCastui}
use Rattle.av_bits.specs.declared.types.DivideTrap.{DivideTrap}
use Rattle.av_bits.specs.Pattern.{bits_of, pattern_of, signed_value}

-- x / y, rounded down: the Euclidean quotient by a divisor above zero
abbrev pub floor_div : ℤ → ℤ → ℤ
floor_div x (pos y) = int_div_euclid x (pos y)
floor_div x (negsuc y) = int_div_euclid (neg_ℤ x) (pos (suc y))

-- x / y, rounded up
abbrev pub ceil_div : ℤ → ℤ → ℤ
ceil_div x y = neg_ℤ (floor_div (neg_ℤ x) y)

-- a signed division of k bits traps: the divisor is zero, or the least value is divided by -1
abbrev pub signed_division_traps : ℕ → ℕ → ℕ → Bool
signed_division_traps k a b = (b == 0) || ((a == 2 ^ (k - 1)) && (b == 2 ^ k - 1))

-- the trap where the test holds, and else the pattern
abbrev pub trap_if : Bool → ℕ → Result ℕ DivideTrap
trap_if true p = Err (record {})
trap_if false p = Ok p

-- the pattern of k bits of a signed quotient or remainder of a and b
abbrev pub signed_division : (ℤ → ℤ → ℤ) → ℕ → ℕ → ℕ → Result ℕ DivideTrap
signed_division divide k a b =
    trap_if (signed_division_traps k a b) (pattern_of k (divide (signed_value k a) (signed_value k b)))

-- the same, unsigned
abbrev pub unsigned_division : (ℕ → ℕ → ℕ) → ℕ → ℕ → Result ℕ DivideTrap
unsigned_division divide a b = trap_if (b == 0) (divide a b)

-- the pattern that a binary operation gives, or its trap; a shift by the width or more shifts by the width
abbrev pub binary_of : BinOp → Width → ℕ → ℕ → Result ℕ DivideTrap
binary_of Addi w a b = Ok (pattern_of (bits_of w) (pos a +ℤ pos b))
binary_of Subi w a b = Ok (pattern_of (bits_of w) (pos a -ℤ pos b))
binary_of Muli w a b = Ok (pattern_of (bits_of w) (pos a *ℤ pos b))
binary_of Divsi w a b = signed_division int_div (bits_of w) a b
binary_of Divui w a b = unsigned_division (λ x y. x / y) a b
binary_of Remsi w a b = signed_division int_rem (bits_of w) a b
binary_of Remui w a b = unsigned_division (λ x y. x % y) a b
binary_of Floordivsi w a b = signed_division floor_div (bits_of w) a b
binary_of Ceildivsi w a b = signed_division ceil_div (bits_of w) a b
binary_of Ceildivui w a b = unsigned_division div_ceil a b
binary_of Andi w a b = Ok (bit_and a b)
binary_of Ori w a b = Ok (bit_or a b)
binary_of Xori w a b = Ok (bit_xor a b)
binary_of Shli w a b = Ok (a * 2 ^ min b (bits_of w) % 2 ^ bits_of w)
binary_of Shrsi w a b =
    Ok (pattern_of (bits_of w) (floor_div (signed_value (bits_of w) a) (pos (2 ^ min b (bits_of w)))))
binary_of Shrui w a b = Ok (a / 2 ^ min b (bits_of w))
binary_of Minsi w a b = Ok (if int_lt (signed_value (bits_of w) b) (signed_value (bits_of w) a) then b else a)
binary_of Minui w a b = Ok (min a b)
binary_of Maxsi w a b = Ok (if int_lt (signed_value (bits_of w) a) (signed_value (bits_of w) b) then b else a)
binary_of Maxui w a b = Ok (max a b)

-- whether a predicate of `arith.cmpi` holds: on patterns, on signed values, or on unsigned values
abbrev pub compare_of : Pred → Width → ℕ → ℕ → Bool
compare_of Eq w a b = a == b
compare_of Ne w a b = not (a == b)
compare_of Slt w a b = int_lt (signed_value (bits_of w) a) (signed_value (bits_of w) b)
compare_of Sle w a b = int_le (signed_value (bits_of w) a) (signed_value (bits_of w) b)
compare_of Sgt w a b = int_lt (signed_value (bits_of w) b) (signed_value (bits_of w) a)
compare_of Sge w a b = int_le (signed_value (bits_of w) b) (signed_value (bits_of w) a)
compare_of Ult w a b = nat_lt a b
compare_of Ule w a b = nat_le a b
compare_of Ugt w a b = nat_lt b a
compare_of Uge w a b = nat_le b a

-- the pattern that a cast gives: by the sign or by zeros, or cut to the low bits
abbrev pub cast_of : CastOp → Width → Width → ℕ → ℕ
cast_of Extsi from to a = pattern_of (bits_of to) (signed_value (bits_of from) a)
cast_of Extui from to a = a % 2 ^ bits_of to
cast_of Trunci from to a = a % 2 ^ bits_of to
cast_of IndexCast from to a = pattern_of (bits_of to) (signed_value (bits_of from) a)
cast_of IndexCastui from to a = a % 2 ^ bits_of to
