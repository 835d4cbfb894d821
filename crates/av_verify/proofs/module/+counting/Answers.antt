use Rattle.std.proofs.Common.{rules, ◌∙◌, ◌-◌, ◌^◌, min, map, ap, sym}
use Rattle.std.specs.Prelude.{sum}
use Rattle.av_tree.specs.declared.node.Node.{out-Node}
use Rattle.av_verify.specs.Modules.{operations_in, operations_within}
use Rattle.av_verify.proofs.Counts.{in_node, in_body, count_more, count_all, one_more, at_most}
use Rattle.av_verify.proofs.module.+counting.Goals as goal

pub operations_in-returns : goal.operations_in-returns
operations_in-returns t c =
    one_more c.saturating_add.result c.operations_within.result (operations_in c.args.node.now) (sum (map operations_within (out-Node c.args.node.now).regions)) (2 ^ 64 - 1)
    c.saturating_add.ensures (search rules) (in_node c.args.node.now)

pub operations_of-returns : goal.operations_of-returns
operations_of-returns t c =
    count_all operations_in c.args.nodes.now c.loop-node.node-index c.loop-node.count (2 ^ 64 - 1) c.loop-node-test.false c.loop-node.invariant.0 c.loop-node.invariant.1

pub operations_within-returns : goal.operations_within-returns
operations_within-returns t c =
    count_all operations_within c.args.bodies.now c.loop-body.body-index c.loop-body.count (2 ^ 64 - 1) c.loop-body-test.false c.loop-body.invariant.0 c.loop-body.invariant.1

pub operations_within-loop-body-preserved : goal.operations_within-loop-body-preserved
operations_within-loop-body-preserved t c = (
  at_most c.saturating_add-count.result _ (2 ^ 64 - 1) c.saturating_add-count.ensures,
  count_more operations_within c.args.bodies.now c.loop-body.body-index c.body-item.result c.loop-body.count c.operations_of.result c.saturating_add-count.result (2 ^ 64 - 1) _
      c.loop-body-test.true (search rules) (c.operations_of.ensures ∙ ap (λ ns. min (sum (map operations_in ns)) (2 ^ 64 - 1)) c.as_slice.ensures ∙ ap (λ n. min n (2 ^ 64 - 1)) (sym (in_body c.body-item.result))) c.saturating_add-count.ensures c.loop-body.invariant.1,
)
