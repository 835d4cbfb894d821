use Rattle.std.proofs.Common.{refl}
use Rattle.av_values.proofs.Replacing.{replaced-end, replaced-top, replaced-none, at_fault}
use Rattle.av_blocks.proofs.regions.with_results.Goals as goal

pub returns-clause-ok : goal.returns-clause-ok
returns-clause-ok c = replaced-top _ _ _ _ _ _ _ _ c.in_ok-results.ensures.ok (replaced-top _ _ _ _ _ _ _ _ c.in_ok-first.ensures.ok (replaced-end _ _ _ _ _ refl (rw (c.in_ok-push_nodes.ensures.ok, c.in_ok-nodes.ensures.ok, c.named_node-node.ensures, c.in_order.ensures))))

pub returns-in_err-first-clause-misshapen : goal.returns-in_err-first-clause-misshapen
returns-in_err-first-clause-misshapen c = at_fault _ c.from_residual-in_err-first.result _ (replaced-top _ _ _ _ _ _ _ _ c.in_ok-results.ensures.ok (replaced-none _ _ _ _ _ c.in_err-first.ensures.err))
