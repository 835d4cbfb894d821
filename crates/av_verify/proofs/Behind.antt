-- Tests of names that stand behind references.
use Rattle.std.proofs.Common.{◌≡◌, List, [], ◌∷◌, refl, ap, ℕ}
use Rattle.std.specs.Prelude.{Bool, ◌&&◌, ◌||◌, map}
use Rattle.std.specs.List.{list_all, list_any}
use denote.Ref.{Bor}

abbrev pub names_in : List (Bor (List ℕ)) → List (List ℕ)
names_in rs = map (λ r. r.now) rs

pub all_names : (p : List ℕ → Bool) (rs : List (Bor (List ℕ))) → list_all (λ r. p r.now) rs ≡ list_all p (names_in rs)
all_names p [] = refl
all_names p (r ∷ rs) = ap (λ b. p r.now && b) (all_names p rs)

pub any_names : (p : List ℕ → Bool) (rs : List (Bor (List ℕ))) → list_any (λ r. p r.now) rs ≡ list_any p (names_in rs)
any_names p [] = refl
any_names p (r ∷ rs) = ap (λ b. p r.now || b) (any_names p rs)
