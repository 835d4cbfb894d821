-- A value that the table of names lacks.
use Rattle.std.proofs.Common.{◌≡◌, sym, ◌∙◌, refl, ℕ, suc, zero, List, [], ◌∷◌, get_or}
use Rattle.std.specs.Prelude.{Result, Ok, Err, Some, None, IfOk, slice_get}

none_there : {A : Type 0} (xs : List A) (i : ℕ) (d : A) → slice_get xs i ≡ None → get_or xs i d ≡ d
none_there [] i d h = refl
none_there (x ∷ xs) zero d h = absurd (cc)
none_there (x ∷ xs) (suc i) d h = none_there xs i d h

pub without_name : {E : Type 0} (r : Result (List ℕ) E) (names : List (List ℕ)) (i : ℕ) (d : List ℕ)
    → IfOk r (λ t. t ≡ d) → slice_get names i ≡ None → IfOk r (λ t. t ≡ get_or names i d)
without_name (Ok t) names i d h none = h ∙ sym (none_there names i d none)
without_name (Err e) names i d h none = tt
