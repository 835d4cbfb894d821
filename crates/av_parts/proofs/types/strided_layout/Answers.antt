use Rattle.std.proofs.Common.{refl}
use Rattle.av_values.proofs.Replacing.{replaced-end, replaced-top, replaced-none, at_fault}
use Rattle.av_parts.proofs.types.strided_layout.Goals as goal

pub returns-clause-ok : goal.returns-clause-ok
returns-clause-ok c = replaced-top _ _ _ _ _ _ _ _ c.in_ok-sizes.ensures.ok (replaced-top _ _ _ _ _ _ _ _ c.in_ok-offset.ensures.ok (replaced-end _ _ _ _ _ refl (rw (c.in_ok-push_layout.ensures.ok, c.in_order-strides.ensures))))

pub returns-in_err-offset-clause-misshapen : goal.returns-in_err-offset-clause-misshapen
returns-in_err-offset-clause-misshapen c = at_fault _ c.from_residual-in_err-offset.result _ (replaced-top _ _ _ _ _ _ _ _ c.in_ok-sizes.ensures.ok (replaced-none _ _ _ _ _ c.in_err-offset.ensures.err))
