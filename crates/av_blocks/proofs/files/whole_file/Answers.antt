use Rattle.std.proofs.Common.{refl}
use Rattle.av_values.proofs.Replacing.{replaced-end, replaced-top, replaced-none, at_fault}
use Rattle.av_blocks.proofs.files.whole_file.Goals as goal

pub returns-clause-ok : goal.returns-clause-ok
returns-clause-ok c = replaced-top _ _ _ _ _ _ _ _ c.in_ok-aliases.ensures.ok (replaced-top _ _ _ _ _ _ _ _ c.in_ok-nodes.ensures.ok (replaced-end _ _ _ _ _ refl (rw (c.in_ok-push_tree.ensures.ok, c.in_ok-root.ensures.ok, c.in_order.ensures))))

pub returns-in_err-nodes-clause-misshapen : goal.returns-in_err-nodes-clause-misshapen
returns-in_err-nodes-clause-misshapen c = at_fault _ c.from_residual-in_err-nodes.result _ (replaced-top _ _ _ _ _ _ _ _ c.in_ok-aliases.ensures.ok (replaced-none _ _ _ _ _ c.in_err-nodes.ensures.err))
