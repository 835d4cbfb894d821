-- the count so far and that of what is left
use Rattle.std.proofs.Common.{◌≡◌, ◌+◌, ◌-◌, ◌^◌, ◌≤◌, min, map, drop}
use Rattle.std.specs.Prelude.{sum}
use Rattle.av_verify.specs.Modules.{operations_in, operations_within}
use Rattle.av_verify.proofs.module.+counting.Given as goal

abbrev pub invariant-operations_within-loop-body : goal.invariant-operations_within-loop-body
invariant-operations_within-loop-body l =
    (l.count ≤ 2 ^ 64 - 1)
    × (min (l.count + sum (map operations_within (drop l.body-index l.bodies))) (2 ^ 64 - 1) ≡ min (sum (map operations_within l.bodies)) (2 ^ 64 - 1))

abbrev pub invariant-operations_of-loop-node : goal.invariant-operations_of-loop-node
invariant-operations_of-loop-node l =
    (l.count ≤ 2 ^ 64 - 1)
    × (min (l.count + sum (map operations_in (drop l.node-index l.nodes))) (2 ^ 64 - 1) ≡ min (sum (map operations_in l.nodes)) (2 ^ 64 - 1))
