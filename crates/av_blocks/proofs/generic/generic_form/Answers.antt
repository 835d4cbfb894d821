use Rattle.std.proofs.Common.{refl}
use Rattle.av_values.proofs.Replacing.{replaced-end, replaced-top, replaced-none, at_fault}
use Rattle.av_blocks.proofs.generic.generic_form.Goals as goal

pub returns-clause-ok : goal.returns-clause-ok
returns-clause-ok c = replaced-top _ _ _ _ _ _ _ _ c.in_ok-string.ensures.ok (replaced-top _ _ _ _ _ _ _ _ c.in_ok-parts.ensures.ok (replaced-end _ _ _ _ _ refl (rw (c.in_ok-push_node.ensures.ok, c.in_ok-node.ensures.ok, c.in_ok-name.ensures.ok))))

pub returns-in_err-parts-clause-misshapen : goal.returns-in_err-parts-clause-misshapen
returns-in_err-parts-clause-misshapen c = at_fault _ c.from_residual-in_err-parts.result _ (replaced-top _ _ _ _ _ _ _ _ c.in_ok-string.ensures.ok (replaced-none _ _ _ _ _ c.in_err-parts.ensures.err))
