use Rattle.std.proofs.Common.{refl}
use Rattle.av_values.proofs.Replacing.{replaced-end, replaced-top, replaced-none, at_fault}
use Rattle.av_blocks.proofs.regions.onward.Goals as goal

pub returns-clause-ok : goal.returns-clause-ok
returns-clause-ok c = replaced-top _ _ _ _ _ _ _ _ c.in_ok-node.ensures.ok (replaced-top _ _ _ _ _ _ _ _ c.in_ok-others.ensures.ok (replaced-end _ _ _ _ _ refl c.in_ok-push_onward.ensures.ok))

pub returns-in_err-others-clause-misshapen : goal.returns-in_err-others-clause-misshapen
returns-in_err-others-clause-misshapen c = at_fault _ c.from_residual-in_err-others.result _ (replaced-top _ _ _ _ _ _ _ _ c.in_ok-node.ensures.ok (replaced-none _ _ _ _ _ c.in_err-others.ensures.err))
