-- what is left to compare decides
use Rattle.std.proofs.Common.{◌≡◌, take, drop, []}
use Rattle.av_verify.specs.Expressions.{are_own}
use Rattle.av_verify.proofs.expressions.are_own.Given as goal

abbrev pub invariant-loop-at : goal.invariant-loop-at
invariant-loop-at l = are_own (take l.at l.names) (drop l.at l.names) l.others ≡ are_own [] l.names l.others
