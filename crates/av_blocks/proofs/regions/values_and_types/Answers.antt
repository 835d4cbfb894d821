use Rattle.std.proofs.Common.{refl}
use Rattle.av_values.proofs.Replacing.{replaced-end, replaced-top, replaced-none, at_fault}
use Rattle.av_blocks.proofs.regions.values_and_types.Goals as goal

pub returns-clause-ok : goal.returns-clause-ok
returns-clause-ok c = replaced-top _ _ _ _ _ _ _ _ c.in_ok-value.ensures.ok (replaced-top _ _ _ _ _ _ _ _ c.in_ok-values.ensures.ok (replaced-top _ _ _ _ _ _ _ _ c.in_ok-ty.ensures.ok (replaced-top _ _ _ _ _ _ _ _ c.in_ok-types.ensures.ok (replaced-end _ _ _ _ _ refl (rw (c.in_ok-push_typed_values.ensures.ok, c.in_ok-all_values.ensures.ok, c.in_ok-all_types.ensures.ok))))))

pub returns-in_err-values-clause-misshapen : goal.returns-in_err-values-clause-misshapen
returns-in_err-values-clause-misshapen c = at_fault _ c.from_residual-in_err-values.result _ (replaced-top _ _ _ _ _ _ _ _ c.in_ok-value.ensures.ok (replaced-none _ _ _ _ _ c.in_err-values.ensures.err))

pub returns-in_err-ty-clause-misshapen : goal.returns-in_err-ty-clause-misshapen
returns-in_err-ty-clause-misshapen c = at_fault _ c.from_residual-in_err-ty.result _ (replaced-top _ _ _ _ _ _ _ _ c.in_ok-value.ensures.ok (replaced-top _ _ _ _ _ _ _ _ c.in_ok-values.ensures.ok (replaced-none _ _ _ _ _ c.in_err-ty.ensures.err)))

pub returns-in_err-types-clause-misshapen : goal.returns-in_err-types-clause-misshapen
returns-in_err-types-clause-misshapen c = at_fault _ c.from_residual-in_err-types.result _ (replaced-top _ _ _ _ _ _ _ _ c.in_ok-value.ensures.ok (replaced-top _ _ _ _ _ _ _ _ c.in_ok-values.ensures.ok (replaced-top _ _ _ _ _ _ _ _ c.in_ok-ty.ensures.ok (replaced-none _ _ _ _ _ c.in_err-types.ensures.err))))
