use Rattle.std.proofs.Common.{◌≡◌, rules}
use Rattle.av_values.specs.Numbers.{spelled_integer}
use mir.Syntax.{w128}
use mir.Val.{to_z, of_z}
use Rattle.av_values.proofs.Digits.{plain_integer}
use Rattle.av_values.proofs.numbers.integer_of.Goals as goal

pub returns-then-negative-clause-plain : goal.returns-then-negative-clause-plain
returns-then-negative-clause-plain c h l =
    let e : to_z w128 (of_z w128 c.saturating_neg.result) ≡ spelled_integer c.args.digits.now c.args.negative = search rules in
    plain_integer c.args.digits.now c.args.negative (to_z w128 (of_z w128 c.saturating_neg.result)) e h l

pub returns-else-negative-clause-plain : goal.returns-else-negative-clause-plain
returns-else-negative-clause-plain c h l =
    let e : to_z w128 (of_z w128 c.unwrap_or-value.result) ≡ spelled_integer c.args.digits.now c.args.negative = search rules in
    plain_integer c.args.digits.now c.args.negative (to_z w128 (of_z w128 c.unwrap_or-value.result)) e h l
