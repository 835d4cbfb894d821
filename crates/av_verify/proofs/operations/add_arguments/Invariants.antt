-- what is left to add gives the rest
use Rattle.std.proofs.Common.{◌≡◌, ◌++◌, drop, length}
use Rattle.av_verify.specs.Elaboration.{argument_values, with_arguments}
use Rattle.av_verify.proofs.operations.add_arguments.Given as goal

abbrev pub invariant-loop-arg : goal.invariant-loop-arg
invariant-loop-arg l =
    (l.values ++ argument_values (length l.scope.values) (drop l.arg-index l.args) ≡ argument_values (length l.initial.scope.values) l.args)
    × (with_arguments l.scope l.role (drop l.arg-index l.args) ≡ with_arguments l.initial.scope l.role l.args)
