use Rattle.std.proofs.Common.{refl}
use Rattle.av_values.proofs.Replacing.{replaced-end, replaced-top, replaced-none, at_fault}
use Rattle.av_parts.proofs.attributes.array_attribute.Goals as goal

pub returns-clause-ok : goal.returns-clause-ok
returns-clause-ok c = replaced-top _ _ _ _ _ _ _ _ c.in_ok-elem.ensures.ok (replaced-top _ _ _ _ _ _ _ _ c.in_ok-numbers.ensures.ok (replaced-end _ _ _ _ _ refl (rw (c.in_ok-push_attr.ensures.ok, c.in_order.ensures))))

pub returns-in_err-numbers-clause-misshapen : goal.returns-in_err-numbers-clause-misshapen
returns-in_err-numbers-clause-misshapen c = at_fault _ c.from_residual-in_err-numbers.result _ (replaced-top _ _ _ _ _ _ _ _ c.in_ok-elem.ensures.ok (replaced-none _ _ _ _ _ c.in_err-numbers.ensures.err))
