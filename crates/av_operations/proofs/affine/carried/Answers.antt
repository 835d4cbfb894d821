use Rattle.std.proofs.Common.{refl}
use Rattle.av_values.proofs.Replacing.{replaced-end, replaced-top, replaced-none, at_fault}
use Rattle.av_operations.proofs.affine.carried.Goals as goal

pub returns-clause-ok : goal.returns-clause-ok
returns-clause-ok c = replaced-top _ _ _ _ _ _ _ _ c.in_ok-name.ensures.ok (replaced-top _ _ _ _ _ _ _ _ c.in_ok-init.ensures.ok (replaced-top _ _ _ _ _ _ _ _ c.in_ok-carried.ensures.ok (replaced-top _ _ _ _ _ _ _ _ c.in_ok-ty.ensures.ok (replaced-end _ _ _ _ _ refl (rw (c.in_ok-push_carried.ensures.ok, c.in_ok-pairs.ensures.ok, c.in_ok-types.ensures.ok))))))

pub returns-in_err-init-clause-misshapen : goal.returns-in_err-init-clause-misshapen
returns-in_err-init-clause-misshapen c = at_fault _ c.from_residual-in_err-init.result _ (replaced-top _ _ _ _ _ _ _ _ c.in_ok-name.ensures.ok (replaced-none _ _ _ _ _ c.in_err-init.ensures.err))

pub returns-in_err-carried-clause-misshapen : goal.returns-in_err-carried-clause-misshapen
returns-in_err-carried-clause-misshapen c = at_fault _ c.from_residual-in_err-carried.result _ (replaced-top _ _ _ _ _ _ _ _ c.in_ok-name.ensures.ok (replaced-top _ _ _ _ _ _ _ _ c.in_ok-init.ensures.ok (replaced-none _ _ _ _ _ c.in_err-carried.ensures.err)))

pub returns-in_err-ty-clause-misshapen : goal.returns-in_err-ty-clause-misshapen
returns-in_err-ty-clause-misshapen c = at_fault _ c.from_residual-in_err-ty.result _ (replaced-top _ _ _ _ _ _ _ _ c.in_ok-name.ensures.ok (replaced-top _ _ _ _ _ _ _ _ c.in_ok-init.ensures.ok (replaced-top _ _ _ _ _ _ _ _ c.in_ok-carried.ensures.ok (replaced-none _ _ _ _ _ c.in_err-ty.ensures.err))))
