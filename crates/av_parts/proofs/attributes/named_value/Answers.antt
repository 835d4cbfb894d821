use Rattle.std.proofs.Common.{refl}
use Rattle.av_values.proofs.Replacing.{replaced-end, replaced-top, replaced-none, at_fault}
use Rattle.av_parts.proofs.attributes.named_value.Goals as goal

pub returns-clause-ok : goal.returns-clause-ok
returns-clause-ok c = replaced-top _ _ _ _ _ _ _ _ c.in_ok-name.ensures.ok (replaced-top _ _ _ _ _ _ _ _ c.in_ok-number.ensures.ok (replaced-end _ _ _ _ _ refl (rw (c.in_ok-push_text.ensures.ok, c.in_ok-append.ensures.ok))))

pub returns-in_err-number-clause-misshapen : goal.returns-in_err-number-clause-misshapen
returns-in_err-number-clause-misshapen c = at_fault _ c.from_residual-in_err-number.result _ (replaced-top _ _ _ _ _ _ _ _ c.in_ok-name.ensures.ok (replaced-none _ _ _ _ _ c.in_err-number.ensures.err))
