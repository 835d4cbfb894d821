use Rattle.std.proofs.Common.{refl}
use Rattle.av_values.proofs.Replacing.{replaced-end, replaced-top, replaced-none, at_fault}
use Rattle.av_parts.proofs.types.memref_type.Goals as goal

pub returns-clause-ok : goal.returns-clause-ok
returns-clause-ok c = replaced-top _ _ _ _ _ _ _ _ c.in_ok-sizes.ensures.ok (replaced-top _ _ _ _ _ _ _ _ c.in_ok-elem.ensures.ok (replaced-top _ _ _ _ _ _ _ _ c.in_ok-layout.ensures.ok (replaced-end _ _ _ _ _ refl (rw (c.in_ok-push_ty.ensures.ok, c.in_order-sizes.ensures)))))

pub returns-in_err-elem-clause-misshapen : goal.returns-in_err-elem-clause-misshapen
returns-in_err-elem-clause-misshapen c = at_fault _ c.from_residual-in_err-elem.result _ (replaced-top _ _ _ _ _ _ _ _ c.in_ok-sizes.ensures.ok (replaced-none _ _ _ _ _ c.in_err-elem.ensures.err))

pub returns-in_err-layout-clause-misshapen : goal.returns-in_err-layout-clause-misshapen
returns-in_err-layout-clause-misshapen c = at_fault _ c.from_residual-in_err-layout.result _ (replaced-top _ _ _ _ _ _ _ _ c.in_ok-sizes.ensures.ok (replaced-top _ _ _ _ _ _ _ _ c.in_ok-elem.ensures.ok (replaced-none _ _ _ _ _ c.in_err-layout.ensures.err)))
