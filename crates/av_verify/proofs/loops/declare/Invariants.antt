-- what is left to declare decides, and is seen
use Rattle.std.proofs.Common.{◌≡◌, drop}
use Rattle.av_verify.specs.Loops.{are_fresh, with_names}
use Rattle.av_verify.proofs.loops.declare.Given as goal

abbrev pub invariant-loop-arg : goal.invariant-loop-arg
invariant-loop-arg l =
    (are_fresh l.names l.seen (drop l.arg-index l.args) ≡ are_fresh l.names l.initial.seen l.args)
    × (with_names l.seen (drop l.arg-index l.args) ≡ with_names l.initial.seen l.args)
