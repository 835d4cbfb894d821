use Rattle.std.proofs.Common.{refl}
use Rattle.av_values.proofs.Replacing.{replaced-end, replaced-top, replaced-none, at_fault}
use Rattle.av_blocks.proofs.regions.terminator.Goals as goal

pub returns-clause-ok : goal.returns-clause-ok
returns-clause-ok c = replaced-top _ _ _ _ _ _ _ _ c.in_ok-word.ensures.ok (replaced-top _ _ _ _ _ _ _ _ c.in_ok-rest.ensures.ok (replaced-end _ _ _ _ _ refl (rw (c.in_ok-push_onward.ensures.ok, c.in_ok-node.ensures.ok))))

pub returns-in_err-rest-clause-misshapen : goal.returns-in_err-rest-clause-misshapen
returns-in_err-rest-clause-misshapen c = at_fault _ c.from_residual-in_err-rest.result _ (replaced-top _ _ _ _ _ _ _ _ c.in_ok-word.ensures.ok (replaced-none _ _ _ _ _ c.in_err-rest.ensures.err))
