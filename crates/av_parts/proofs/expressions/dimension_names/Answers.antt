use Rattle.std.proofs.Common.{refl}
use Rattle.av_values.proofs.Replacing.{replaced-end, replaced-top, replaced-none, at_fault}
use Rattle.av_parts.proofs.expressions.dimension_names.Goals as goal

pub returns-clause-ok : goal.returns-clause-ok
returns-clause-ok c = replaced-top _ _ _ _ _ _ _ _ c.in_ok-dims.ensures.ok (replaced-top _ _ _ _ _ _ _ _ c.in_ok-syms.ensures.ok (replaced-end _ _ _ _ _ refl c.in_ok-push_parameters.ensures.ok))

pub returns-in_err-syms-clause-misshapen : goal.returns-in_err-syms-clause-misshapen
returns-in_err-syms-clause-misshapen c = at_fault _ c.from_residual-in_err-syms.result _ (replaced-top _ _ _ _ _ _ _ _ c.in_ok-dims.ensures.ok (replaced-none _ _ _ _ _ c.in_err-syms.ensures.err))
