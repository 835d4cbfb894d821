use Rattle.std.proofs.Common.{refl}
use Rattle.av_values.proofs.Replacing.{replaced-end, replaced-top, replaced-none, at_fault}
use Rattle.av_parts.proofs.expressions.written_map.Goals as goal

pub returns-clause-ok : goal.returns-clause-ok
returns-clause-ok c = replaced-top _ _ _ _ _ _ _ _ c.in_ok-parameters.ensures.ok (replaced-top _ _ _ _ _ _ _ _ c.in_ok-expressions.ensures.ok (replaced-end _ _ _ _ _ refl (rw (c.in_ok-push_attr.ensures.ok, c.in_ok-map.ensures.ok))))

pub returns-in_err-expressions-clause-misshapen : goal.returns-in_err-expressions-clause-misshapen
returns-in_err-expressions-clause-misshapen c = at_fault _ c.from_residual-in_err-expressions.result _ (replaced-top _ _ _ _ _ _ _ _ c.in_ok-parameters.ensures.ok (replaced-none _ _ _ _ _ c.in_err-expressions.ensures.err))
