use Rattle.std.proofs.Common.{refl, rules}
use Rattle.std.specs.Prelude.{FitsSigned}
use Rattle.std.proofs.lemmas.Int.{to_z-of_z}
use mir.Syntax.{w128}
use Rattle.av_values.proofs.Replacing.{replaced-end, replaced-top, replaced-none, at_fault}
use Rattle.av_parts.proofs.attributes.number_before.Goals as goal

pub returns-clause-ok : goal.returns-clause-ok
returns-clause-ok c =
    let f0 : FitsSigned w128 c.in_ok-number.number = search rules in
    replaced-top _ _ _ _ _ _ _ _ c.in_ok-number.ensures.ok (replaced-top _ _ _ _ _ _ _ _ c.in_ok-others.ensures.ok (replaced-end _ _ _ _ _ refl (rw (c.in_ok-push_numbers.ensures.ok, c.in_ok-numbers.ensures.ok, to_z-of_z w128 c.in_ok-number.number f0))))

pub returns-in_err-others-clause-misshapen : goal.returns-in_err-others-clause-misshapen
returns-in_err-others-clause-misshapen c = at_fault _ c.from_residual-in_err-others.result _ (replaced-top _ _ _ _ _ _ _ _ c.in_ok-number.ensures.ok (replaced-none _ _ _ _ _ c.in_err-others.ensures.err))
