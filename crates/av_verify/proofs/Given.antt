-- What holds of what is given, if something is.
use Rattle.std.proofs.Common.{◌≡◌, ℕ, Option, Some, None, refl, subst}
use Rattle.av_verify.specs.declared.refusal.Code.{Code}
use Rattle.av_verify.specs.Elaboration.{Outcome, gives, fails, next, checked}

abbrev pub OnGiven : {A : Type 0} → (A → Type 0) → Outcome A → Type 0
OnGiven P (gives a) = P a
OnGiven P (fails k c) = Unit {0}

pub given : {A : Type 0} (P : A → Type 0) (o : Outcome A) (a : A) → OnGiven P o → o ≡ gives a → P a
given P o a h is = subst (OnGiven P) is h

pub on_next : {A B : Type 0} (P : A → Type 0) (Q : B → Type 0) (o : Outcome A) (follows : A → Outcome B)
    → OnGiven P o → ((a : A) → P a → OnGiven Q (follows a)) → OnGiven Q (next o follows)
on_next P Q (gives a) follows h then = then a h
on_next P Q (fails k c) follows h then = tt

pub on_checked : {A : Type 0} (P : A → Type 0) (number : ℕ) (failing : Option Code) (o : Outcome A)
    → (failing ≡ None → OnGiven P o) → OnGiven P (checked number failing o)
on_checked P number None o h = h refl
on_checked P number (Some code) o h = tt
