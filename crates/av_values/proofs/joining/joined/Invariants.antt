use Rattle.std.proofs.Common.{◌≡◌, length, reverse}
use Rattle.av_values.specs.Expressions.{joined_left}
use Rattle.av_values.proofs.joining.joined.Given as goal

abbrev pub decreases-loop-part : goal.decreases-loop-part
decreases-loop-part l = length l.parts

abbrev pub invariant-loop-part : goal.invariant-loop-part
invariant-loop-part l = joined_left l.whole (reverse l.parts) ≡ joined_left l.fn.whole (reverse l.fn.parts)
