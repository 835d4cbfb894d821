-- what is left of the operations gives the rest
use Rattle.std.proofs.Common.{◌≡◌, [], drop}
use Rattle.av_verify.specs.Elaboration.{in_order, loop_of, operation_with}
use Rattle.av_verify.proofs.operations.+elaborating.Given as goal

abbrev pub invariant-operations-loop-at : goal.invariant-operations-loop-at
invariant-operations-loop-at l =
    in_order (operation_with (loop_of l.room)) l.ops l.scope (drop l.at l.nodes)
    ≡ in_order (operation_with (loop_of l.room)) [] l.fn.scope l.nodes
