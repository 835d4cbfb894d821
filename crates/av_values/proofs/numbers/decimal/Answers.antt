use Rattle.std.proofs.Common.{◌≡◌, ◌-◌, ◌^◌, lit≤, arith}
use Rattle.std.proofs.lemmas.Grind.{common_steps}
use Rattle.av_values.specs.Numbers.{spelled_number}
use Rattle.av_values.proofs.Digits.{no_digits, next_digit, plain_number}
use Rattle.av_values.proofs.numbers.decimal.Goals as goal

pub loop-digit-init : goal.loop-digit-init
loop-digit-init c = no_digits (2 ^ 128 - 1)

pub loop-digit-preserved : goal.loop-digit-preserved
loop-digit-preserved c = grind (arith, next_digit c.args.digits.now c.loop-digit.digit-index c.loop-digit.value (2 ^ 128 - 1) c.loop-digit-test.true c.loop-digit.invariant)

pub returns-clause-plain : goal.returns-clause-plain
returns-clause-plain c h l =
    let e : c.loop-digit.value ≡ spelled_number c.args.digits.now = grind (arith, common_steps) in
    plain_number c.args.digits.now c.loop-digit.value (2 ^ 128 - 1) e (lit≤ tt) h l
