-- The nine kinds by which MLIR's `vector` dialect combines integers.
use Rattle.std.specs.Prelude.{ℕ, ◌-◌, ◌^◌}
use Rattle.std.specs.Result.{result_unwrap_or}
use Rattle.av_bits.specs.declared.types.Width.{Width}
use Rattle.av_bits.specs.declared.types.Kind9.{Kind9}
use Rattle.av_bits.specs.declared.types.Kind9.TheVariants.{Add, Mul, And, Or, Xor, Minsi, Minui, Maxsi, Maxui}
use Rattle.av_bits.specs.declared.types.BinOp.{BinOp}
use Rattle.av_bits.specs.declared.types.BinOp.TheVariants.{Addi, Muli, Andi, Ori, Xori}
use Rattle.av_bits.specs.declared.types.BinOp.TheVariants.{Minsi as MinsiOp, Minui as MinuiOp, Maxsi as MaxsiOp, Maxui as MaxuiOp}
use Rattle.av_bits.specs.Pattern.{bits_of}
use Rattle.av_bits.specs.Scalar.{binary_of}

-- the binary operation of a kind
abbrev pub operation_of : Kind9 → BinOp
operation_of Add = Addi
operation_of Mul = Muli
operation_of And = Andi
operation_of Or = Ori
operation_of Xor = Xori
operation_of Minsi = MinsiOp
operation_of Minui = MinuiOp
operation_of Maxsi = MaxsiOp
operation_of Maxui = MaxuiOp

-- the pattern that changes no pattern it is combined with: 0, 1, all ones, 0, 0, the greatest signed
-- value, the greatest unsigned value, the least signed value, 0
abbrev pub neutral_of : Kind9 → Width → ℕ
neutral_of Add w = 0
neutral_of Mul w = 1
neutral_of And w = 2 ^ bits_of w - 1
neutral_of Or w = 0
neutral_of Xor w = 0
neutral_of Minsi w = 2 ^ (bits_of w - 1) - 1
neutral_of Minui w = 2 ^ bits_of w - 1
neutral_of Maxsi w = 2 ^ (bits_of w - 1)
neutral_of Maxui w = 0

-- two patterns combined by a kind, whose operation never traps
abbrev pub combine_of : Kind9 → Width → ℕ → ℕ → ℕ
combine_of kind w a b = result_unwrap_or (binary_of (operation_of kind) w a b) 0
