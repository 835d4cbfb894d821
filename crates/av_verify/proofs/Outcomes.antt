-- How an operation that is asked its rules ends.
use Rattle.std.proofs.Common.{◌≡◌, ℕ, Option, Some, None, refl, ap, sym, subst}
use Rattle.std.specs.Prelude.{Result, Ok, Err, OnOk}
use Rattle.av_verify.specs.declared.refusal.Code.{Code}
use Rattle.av_verify.specs.declared.refusal.VerifyRefusal.{VerifyRefusal}
use Rattle.av_verify.specs.declared.refusal.VerifyRefusal.TheVariants.{Bad, NoMemory}
use Rattle.av_verify.specs.declared.scope.Scope.{Scope}
use Rattle.av_verify.specs.Codes.{Asked, Refuses}
use Rattle.av_verify.specs.Elaboration.{Outcome, fails, checked, next, step, Elaborates, IsRefused}

pub refuses : {A : Type 0} (number : ℕ) (failing : Option Code) (refusal : VerifyRefusal) (outcome : Outcome A)
    → Refuses number failing refusal → IsRefused (checked number failing outcome) refusal
refuses number None NoMemory outcome h = tt
refuses number (Some f) NoMemory outcome h = tt
refuses number None (Bad k c) outcome h = absurd h
refuses number (Some f) (Bad k c) outcome h = cc (h.0, h.1)

-- a step that changes the scope
pub asked_ends : {A : Type 0} (number : ℕ) (failing : Option Code) (result : Result A VerifyRefusal) (a : A) (after scope : Scope)
    → Asked number failing result (λ x. x ≡ a) → OnOk result (scope ≡ after) → Elaborates (checked number failing (step a after)) result scope
asked_ends number None (Ok x) a after scope h s = cc (h.1, s)
asked_ends number (Some c) (Ok x) a after scope h s = absurd (cc h.0)
asked_ends number failing (Err refusal) a after scope h s = refuses number failing refusal (step a after) h

-- the scope stays
pub asked_stays : {A : Type 0} (number : ℕ) (failing : Option Code) (result : Result A VerifyRefusal) (a : A) (scope : Scope)
    → Asked number failing result (λ x. x ≡ a) → Elaborates (checked number failing (step a scope)) result scope
asked_stays number None (Ok x) a scope h = cc (h.1)
asked_stays number (Some c) (Ok x) a scope h = absurd (cc h.0)
asked_stays number failing (Err refusal) a scope h = refuses number failing refusal (step a scope) h

-- the refusal of an operation that can't stand here
pub refused : (A : Type 0) (number code : ℕ) (refusal : VerifyRefusal) → refusal ≡ Bad number code → IsRefused {A = A} (fails number code) refusal
refused A number code refusal e =
    subst (λ (r : VerifyRefusal). IsRefused {A = A} (fails number code) r) (sym e) refl

-- what fails first fails whatever follows
pub refused_next : {A B : Type 0} (outcome : Outcome A) (follows : A → Outcome B) (refusal : VerifyRefusal)
    → IsRefused outcome refusal → IsRefused (next outcome follows) refusal
refused_next outcome follows NoMemory h = tt
refused_next outcome follows (Bad k c) h = ap (λ o. next o follows) h
