use Rattle.std.proofs.Common.{◌≡◌}
use Rattle.av_derive.specs.State.{Stands}
use Rattle.av_derive.proofs.derivation.derive.Given as goal

abbrev pub invariant-loop-at : goal.invariant-loop-at
invariant-loop-at l = record {
  stands : Stands l.machine l.classes l.at;
  limits : l.machine.limits ≡ l.fn.limits;
}
