use Rattle.std.proofs.Common.{refl}
use Rattle.av_values.proofs.Replacing.{replaced-end, replaced-top, replaced-none, at_fault}
use Rattle.av_parts.proofs.expressions.set_row.Goals as goal

pub returns-clause-ok : goal.returns-clause-ok
returns-clause-ok c = replaced-top _ _ _ _ _ _ _ _ c.in_ok-left.ensures.ok (replaced-top _ _ _ _ _ _ _ _ c.in_ok-equal.ensures.ok (replaced-end _ _ _ _ _ refl c.in_ok-push_row.ensures.ok))

pub returns-in_err-equal-clause-misshapen : goal.returns-in_err-equal-clause-misshapen
returns-in_err-equal-clause-misshapen c = at_fault _ c.from_residual-in_err-equal.result _ (replaced-top _ _ _ _ _ _ _ _ c.in_ok-left.ensures.ok (replaced-none _ _ _ _ _ c.in_err-equal.ensures.err))
