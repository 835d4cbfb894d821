use Rattle.std.proofs.Common.{◌/◌, ◌%◌, arith}
use Rattle.av_top.proofs.request.two_digits.Goals as goal

pub returns-in_default : goal.returns-in_default
returns-in_default c = λ n low high tens ones. c.in_default.ensures (n / 10) (omega arith) tens

pub returns-in_default-value_of : goal.returns-in_default-value_of
returns-in_default-value_of c = λ n low high tens ones. c.in_default-value_of.ensures (n % 10) (omega arith) ones
