-- How a refusal ends.
use Rattle.std.proofs.Common.{◌≡◌, ℕ, List, Option, codes, refl, sym, subst, inl, inr}
use Rattle.av_top.specs.declared.status.Status.{Status}
use Rattle.av_top.specs.declared.status.Status.TheVariants.{NotBuilt}
use Rattle.av_top.specs.Outcome.{RefusalEnds, Same, SinksAfter}

-- with an equal line
pub with_line : (status refusal : Status) (line line' : List ℕ) (n n' : Option (List ℕ)) (nf nf' : ℕ) → line ≡ line' → RefusalEnds status refusal line n n' nf nf' → RefusalEnds status refusal line' n n' nf nf'
with_line status refusal line line' n n' nf nf' e ends =
    let Ends : List ℕ → Type 0 = λ l. RefusalEnds status refusal l n n' nf nf' in
    subst Ends e ends

as_it_was : (h : Option (List ℕ)) (f : ℕ) → Same h h f f
as_it_was h f = record { bytes = refl; count = refl }

-- what is not built leaves the output as it was
pub not_built_sinks : (status : Status) (h n n' : Option (List ℕ)) (f nf nf' : ℕ) → RefusalEnds status NotBuilt (codes "affvec: not built\n") n n' nf nf' → SinksAfter status h h f f n n' nf nf'
not_built_sinks status h n n' f nf nf' (inl ends) =
    let After : Status → Type 0 = λ s. SinksAfter s h h f f n n' nf nf' in
    subst After (sym ends.0) (as_it_was h f, ends.1)
not_built_sinks status h n n' f nf nf' (inr ends) =
    let After : Status → Type 0 = λ s. SinksAfter s h h f f n n' nf nf' in
    subst After (sym ends.0) (as_it_was h f, ends.1)
