use Rattle.std.proofs.Common.{refl}
use Rattle.av_values.proofs.Replacing.{replaced-end, replaced-top, replaced-none, at_fault}
use Rattle.av_parts.proofs.attributes.function_type.Goals as goal

pub returns-clause-ok : goal.returns-clause-ok
returns-clause-ok c = replaced-top _ _ _ _ _ _ _ _ c.in_ok-last_inputs.ensures.ok (replaced-top _ _ _ _ _ _ _ _ c.in_ok-last_results.ensures.ok (replaced-end _ _ _ _ _ refl (rw (c.in_ok-push_attr.ensures.ok, c.in_order-inputs.ensures, c.in_order-results.ensures))))

pub returns-in_err-last_results-clause-misshapen : goal.returns-in_err-last_results-clause-misshapen
returns-in_err-last_results-clause-misshapen c = at_fault _ c.from_residual-in_err-last_results.result _ (replaced-top _ _ _ _ _ _ _ _ c.in_ok-last_inputs.ensures.ok (replaced-none _ _ _ _ _ c.in_err-last_results.ensures.err))
