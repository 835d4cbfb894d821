use Rattle.std.proofs.Common.{refl, rules}
use Rattle.std.specs.Prelude.{FitsSigned}
use Rattle.std.proofs.lemmas.Int.{to_z-of_z}
use mir.Syntax.{w128}
use Rattle.av_values.proofs.Replacing.{replaced-end, replaced-top}
use Rattle.av_operations.proofs.affine.written_step.Goals as goal

pub returns-clause-ok : goal.returns-clause-ok
returns-clause-ok c =
    let f : FitsSigned w128 c.integer_of-step.result = search rules in
    replaced-top _ _ _ _ _ _ _ _ c.in_ok-digits.ensures.ok (replaced-end _ _ _ _ _ refl (rw (c.in_ok-push_number.ensures.ok, to_z-of_z w128 c.integer_of-step.result f, c.integer_of-step.ensures.value)))
