-- what is left to declare decides
use Rattle.std.proofs.Common.{◌≡◌, drop, []}
use Rattle.av_verify.specs.Loops.{are_new}
use Rattle.av_verify.proofs.loops.are_new.Given as goal

abbrev pub invariant-loop-body : goal.invariant-loop-body
invariant-loop-body l = are_new l.names l.seen (drop l.body-index l.bodies) ≡ are_new l.names [] l.bodies
