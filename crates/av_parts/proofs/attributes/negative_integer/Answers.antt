use Rattle.std.proofs.Common.{refl, rules, ap, ◌∙◌, ◌∷◌}
use Rattle.std.specs.Prelude.{ℤ, FitsSigned}
use Rattle.std.proofs.lemmas.Int.{to_z-of_z}
use mir.Syntax.{w128}
use Rattle.av_values.specs.declared.value.Value.TheVariants as value
use Rattle.av_values.proofs.Replacing.{replaced-end, replaced-top}
use Rattle.av_parts.proofs.attributes.negative_integer.Goals as goal

pub returns-clause-ok : goal.returns-clause-ok
returns-clause-ok c =
    let f : FitsSigned w128 c.integer_of-value.result = search rules in
    replaced-top _ _ _ _ _ _ _ _ c.in_ok-digits.ensures.ok
    (replaced-end _ _ _ _ _ refl (c.in_ok-push_number.ensures.ok ∙ ap (λ (z : ℤ). value.Number z ∷ c.text.new.self) (to_z-of_z w128 c.integer_of-value.result f ∙ c.integer_of-value.ensures.value)))
