use Rattle.std.proofs.Common.{refl, rules}
use Rattle.std.specs.Prelude.{FitsSigned}
use Rattle.std.proofs.lemmas.Int.{to_z-of_z}
use mir.Syntax.{w128}
use Rattle.av_values.proofs.Replacing.{replaced-end, replaced-top, replaced-none, at_fault}
use Rattle.av_operations.proofs.arith.number_constant.Goals as goal

pub returns-clause-ok : goal.returns-clause-ok
returns-clause-ok c =
    let f0 : FitsSigned w128 c.in_ok-value.value = search rules in
    replaced-top _ _ _ _ _ _ _ _ c.in_ok-value.ensures.ok (replaced-top _ _ _ _ _ _ _ _ c.in_ok-ty.ensures.ok (replaced-end _ _ _ _ _ refl (rw (c.in_ok-push_constant.ensures.ok, c.in_ok-constant.ensures.ok, to_z-of_z w128 c.in_ok-value.value f0))))

pub returns-in_err-ty-clause-misshapen : goal.returns-in_err-ty-clause-misshapen
returns-in_err-ty-clause-misshapen c = at_fault _ c.from_residual-in_err-ty.result _ (replaced-top _ _ _ _ _ _ _ _ c.in_ok-value.ensures.ok (replaced-none _ _ _ _ _ c.in_err-ty.ensures.err))
