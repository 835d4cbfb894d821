-- Expressions that are joined part by part.
use Rattle.std.proofs.Common.{◌≡◌, List, [], ◌∷◌, ◌++◌, reverse, refl, sym, ap, ◌∙◌}
use Rattle.std.proofs.lemmas.List.{reverse-append}
use Rattle.av_values.specs.declared.value.Part.{Part}
use Rattle.av_values.specs.declared.value.Expression.{Expression}
use Rattle.av_values.specs.Expressions.{with_part, joined_left}

-- the part that stands last in its list comes first
pub next_part : (whole : Expression) (parts under : List Part) (part : Part) → parts ≡ under ++ part ∷ []
    → joined_left (with_part whole part) (reverse under) ≡ joined_left whole (reverse parts)
unfolding joined_left
next_part whole parts under part e = sym (ap (λ (ps : List Part). joined_left whole (reverse ps)) e ∙ ap (joined_left whole) (reverse-append under (part ∷ [])))

pub no_parts : (whole : Expression) → joined_left whole (reverse []) ≡ whole
unfolding joined_left
no_parts whole = refl
