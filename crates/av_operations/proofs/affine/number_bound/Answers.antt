use Rattle.std.proofs.Common.{refl, rules}
use Rattle.std.specs.Prelude.{FitsSigned}
use Rattle.std.proofs.lemmas.Int.{to_z-of_z}
use mir.Syntax.{w128}
use Rattle.av_values.proofs.Replacing.{replaced-end, replaced-top}
use Rattle.av_operations.proofs.affine.number_bound.Goals as goal

pub returns-clause-ok : goal.returns-clause-ok
returns-clause-ok c =
    let f : FitsSigned w128 c.in_ok-number.number = search rules in
    replaced-top _ _ _ _ _ _ _ _ c.in_ok-number.ensures.ok (replaced-end _ _ _ _ _ refl (rw (c.in_ok-push_map_use.ensures.ok, c.in_ok-bound.ensures.ok, to_z-of_z w128 c.in_ok-number.number f)))
