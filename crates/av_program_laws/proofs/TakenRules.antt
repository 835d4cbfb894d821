-- What follows where rules hold and where steps give something.
use Rattle.std.proofs.Common.{◌≡◌, ℕ, Bool, true, false, cond, List, [], ◌∷◌, Some, None, refl, inl, inr}
use Rattle.std.specs.Prelude.{◌⊎◌, not, ◌&&◌, ◌||◌, Option, find, is_some}
use Rattle.std.specs.Option.{option_map}
use Rattle.std.specs.Str.{bytes_eq}
use Rattle.std.proofs.lemmas.Slice.Eq.{bytes_eq-Decides}
use Rattle.av_verify.specs.Parts.{Code, Rule}
use Rattle.av_verify.specs.Codes.{first_failing}
use Rattle.av_verify.specs.Elaboration.{Outcome, gives, fails, next, checked}
use Rattle.av_verify.specs.FirstPath.{is_only}

-- ---- tests
pub both : (a b : Bool) → a && b ≡ true → (a ≡ true) × (b ≡ true)
both true b h = (refl, h)
both false b h = absurd (cc)

pub either : (a b : Bool) → a || b ≡ true → (a ≡ true) ⊎ (b ≡ true)
either true b h = inl refl
either false b h = inr h

pub denied : (a : Bool) → not a ≡ true → a ≡ false
denied false h = refl
denied true h = absurd (cc)

pub found : {A : Type 0} (o : Option A) → is_some o ≡ true → (a : A) × (o ≡ Some a)
found None h = absurd (cc)
found (Some a) h = (a, refl)

pub same_bytes : (a b : List ℕ) → bytes_eq a b ≡ true → a ≡ b
same_bytes a b h = (bytes_eq-Decides a b).0 h

pub own_bytes : (a : List ℕ) → bytes_eq a a ≡ true
own_bytes a = (bytes_eq-Decides a a).1 refl

pub only_one : {A : Type 0} (p : A → Bool) (xs : List A) → is_only p xs ≡ true → (x : A) × (xs ≡ x ∷ []) × (p x ≡ true)
only_one p [] h = absurd (cc)
only_one p (x ∷ []) h = (x, refl, h)
only_one p (x ∷ y ∷ ys) h = absurd (cc)

-- ---- rules
abbrev pub AllHold : List Rule → Type 0
AllHold [] = Unit {0}
AllHold (rule ∷ rules) = (rule.holds ≡ true) × AllHold rules

first_holds : (rule : Rule) (rules : List Rule) (b : Bool)
    → option_map (λ (r : Rule). r.code) (cond (not b) (Some rule) (find (λ (r : Rule). not r.holds) rules)) ≡ None
    → (b ≡ true) × (first_failing rules ≡ None)
first_holds rule rules true h = (refl, h)
first_holds rule rules false h = absurd (cc)

pub all_hold : (rules : List Rule) → first_failing rules ≡ None → AllHold rules
all_hold [] h = tt
all_hold (rule ∷ rules) h = let p = first_holds rule rules rule.holds h in (p.0, all_hold rules p.1)

-- ---- outcomes
pub next_gives : {A B : Type 0} (o : Outcome A) (follows : A → Outcome B) (b : B) → next o follows ≡ gives b
    → (a : A) × (o ≡ gives a) × (follows a ≡ gives b)
next_gives (gives a) follows b h = (a, refl, h)
next_gives (fails k c) follows b h = absurd (cc)

pub checked_gives : {A : Type 0} (number : ℕ) (failing : Option Code) (o : Outcome A) (a : A) → checked number failing o ≡ gives a
    → (failing ≡ None) × (o ≡ gives a)
checked_gives number None o a h = (refl, h)
checked_gives number (Some failing) o a h = absurd (cc)

pub given_is : {A : Type 0} (a b : A) → (let o : Outcome A = gives a in o ≡ gives b) → a ≡ b
given_is a b h = cc
