-- Where no rule fails, each holds.
use Rattle.std.proofs.Common.{◌≡◌, Bool, true, false, cond, List, [], ◌∷◌, Option, Some, None, refl}
use Rattle.std.specs.Prelude.{not, find}
use Rattle.std.specs.Option.{option_map}
use Rattle.std.specs.List.{All}
use Rattle.std.proofs.lemmas.List.Elements.{All-nil, All-cons}
use Rattle.av_verify.specs.declared.refusal.Rule.{Rule}
use Rattle.av_verify.specs.Codes.{first_failing}

first_holds : (holds : Bool) (rule : Rule) (found : Option Rule) → option_map (λ (r : Rule). r.code) (cond (not holds) (Some rule) found) ≡ None
    → (holds ≡ true) × (option_map (λ (r : Rule). r.code) found ≡ None)
first_holds true rule found h = (refl, h)
first_holds false rule found h = absurd (cc)

pub all_hold : (rules : List Rule) → first_failing rules ≡ None → All (λ rule. rule.holds ≡ true) rules
all_hold [] h = All-nil (λ (rule : Rule). rule.holds ≡ true)
all_hold (rule ∷ rules) h =
    let first = first_holds rule.holds rule (find (λ r. not r.holds) rules) h in
    All-cons (λ (r : Rule). r.holds ≡ true) rule rules first.0 (all_hold rules first.1)
