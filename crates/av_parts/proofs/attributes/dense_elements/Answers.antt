use Rattle.std.proofs.Common.{refl}
use Rattle.av_values.proofs.Replacing.{replaced-end, replaced-top, replaced-none, at_fault}
use Rattle.av_parts.proofs.attributes.dense_elements.Goals as goal

pub returns-clause-ok : goal.returns-clause-ok
returns-clause-ok c = replaced-top _ _ _ _ _ _ _ _ c.in_ok-elements.ensures.ok (replaced-top _ _ _ _ _ _ _ _ c.in_ok-ty.ensures.ok (replaced-end _ _ _ _ _ refl c.in_ok-push_dense.ensures.ok))

pub returns-in_err-ty-clause-misshapen : goal.returns-in_err-ty-clause-misshapen
returns-in_err-ty-clause-misshapen c = at_fault _ c.from_residual-in_err-ty.result _ (replaced-top _ _ _ _ _ _ _ _ c.in_ok-elements.ensures.ok (replaced-none _ _ _ _ _ c.in_err-ty.ensures.err))
