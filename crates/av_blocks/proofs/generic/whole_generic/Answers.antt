use Rattle.std.proofs.Common.{refl}
use Rattle.av_values.proofs.Replacing.{replaced-end, replaced-top, replaced-none, at_fault}
use Rattle.av_blocks.proofs.generic.whole_generic.Goals as goal

pub returns-clause-ok : goal.returns-clause-ok
returns-clause-ok c = replaced-top _ _ _ _ _ _ _ _ c.in_ok-operands.ensures.ok (replaced-top _ _ _ _ _ _ _ _ c.in_ok-properties.ensures.ok (replaced-top _ _ _ _ _ _ _ _ c.in_ok-regions.ensures.ok (replaced-top _ _ _ _ _ _ _ _ c.in_ok-attrs.ensures.ok (replaced-top _ _ _ _ _ _ _ _ c.in_ok-ins.ensures.ok (replaced-top _ _ _ _ _ _ _ _ c.in_ok-outs.ensures.ok (replaced-end _ _ _ _ _ refl (rw (c.in_ok-push_generic.ensures.ok, c.in_order.ensures, c.in_order-2.ensures, c.in_order-3.ensures, c.in_order-4.ensures, c.in_order-5.ensures, c.in_order-6.ensures))))))))

pub returns-in_err-properties-clause-misshapen : goal.returns-in_err-properties-clause-misshapen
returns-in_err-properties-clause-misshapen c = at_fault _ c.from_residual-in_err-properties.result _ (replaced-top _ _ _ _ _ _ _ _ c.in_ok-operands.ensures.ok (replaced-none _ _ _ _ _ c.in_err-properties.ensures.err))

pub returns-in_err-regions-clause-misshapen : goal.returns-in_err-regions-clause-misshapen
returns-in_err-regions-clause-misshapen c = at_fault _ c.from_residual-in_err-regions.result _ (replaced-top _ _ _ _ _ _ _ _ c.in_ok-operands.ensures.ok (replaced-top _ _ _ _ _ _ _ _ c.in_ok-properties.ensures.ok (replaced-none _ _ _ _ _ c.in_err-regions.ensures.err)))

pub returns-in_err-attrs-clause-misshapen : goal.returns-in_err-attrs-clause-misshapen
returns-in_err-attrs-clause-misshapen c = at_fault _ c.from_residual-in_err-attrs.result _ (replaced-top _ _ _ _ _ _ _ _ c.in_ok-operands.ensures.ok (replaced-top _ _ _ _ _ _ _ _ c.in_ok-properties.ensures.ok (replaced-top _ _ _ _ _ _ _ _ c.in_ok-regions.ensures.ok (replaced-none _ _ _ _ _ c.in_err-attrs.ensures.err))))

pub returns-in_err-ins-clause-misshapen : goal.returns-in_err-ins-clause-misshapen
returns-in_err-ins-clause-misshapen c = at_fault _ c.from_residual-in_err-ins.result _ (replaced-top _ _ _ _ _ _ _ _ c.in_ok-operands.ensures.ok (replaced-top _ _ _ _ _ _ _ _ c.in_ok-properties.ensures.ok (replaced-top _ _ _ _ _ _ _ _ c.in_ok-regions.ensures.ok (replaced-top _ _ _ _ _ _ _ _ c.in_ok-attrs.ensures.ok (replaced-none _ _ _ _ _ c.in_err-ins.ensures.err)))))

pub returns-in_err-outs-clause-misshapen : goal.returns-in_err-outs-clause-misshapen
returns-in_err-outs-clause-misshapen c = at_fault _ c.from_residual-in_err-outs.result _ (replaced-top _ _ _ _ _ _ _ _ c.in_ok-operands.ensures.ok (replaced-top _ _ _ _ _ _ _ _ c.in_ok-properties.ensures.ok (replaced-top _ _ _ _ _ _ _ _ c.in_ok-regions.ensures.ok (replaced-top _ _ _ _ _ _ _ _ c.in_ok-attrs.ensures.ok (replaced-top _ _ _ _ _ _ _ _ c.in_ok-ins.ensures.ok (replaced-none _ _ _ _ _ c.in_err-outs.ensures.err))))))
