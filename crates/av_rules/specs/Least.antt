-- The first of some things that fails a question, and the first question that it fails.
use Rattle.std.specs.Prelude.{ℕ, suc, ◌<◌, ◌≤◌, ◌≡◌, ◌⊎◌, Bool, true, false, if◌then◌else◌, List, [], ◌∷◌, slice_get, Option, Some, None, MatchOption}
use Rattle.std.specs.Option.{option_map, option_map_or}

-- whether the item at a place passes a test; none does past the end
abbrev pub passes_at : {B : Type 0} → (B → Bool) → List B → ℕ → Bool
passes_at p bs j = option_map_or p (slice_get bs j) false

-- whether the thing at the first place fails the question at the second
abbrev pub fails_at : {A B : Type 0} → (A → B → Bool) → List A → List B → ℕ → ℕ → Bool
fails_at p things bs i j = passes_at (λ a. passes_at (p a) bs j) things i

-- the first place whose item passes
abbrev pub first_place : {B : Type 0} → (B → Bool) → List B → Option ℕ
first_place p [] = None
first_place p (b ∷ bs) = if p b then Some 0 else option_map suc (first_place p bs)

-- a place of a thing, and one of a question
pub record Places : Type 0 where
  pub thing : ℕ
  pub question : ℕ

abbrev pub after_one : Places → Places
after_one q = record { thing = suc q.thing; question = q.question }

abbrev pub found_first : Option ℕ → Option Places → Option Places
found_first (Some j) later = Some (record { thing = 0; question = j })
found_first None later = option_map after_one later

-- the first thing that fails anything, with the first that it fails
abbrev pub least_places : {A B : Type 0} → (A → B → Bool) → List A → List B → Option Places
least_places p [] bs = None
least_places p (a ∷ things) bs = found_first (first_place (p a) bs) (least_places p things bs)

-- one pair of places isn't after another: an earlier thing, or the same one with no later question
abbrev pub IsNotAfter : Places → ℕ → ℕ → Type 0
IsNotAfter q i j = (q.thing < i) ⊎ ((q.thing ≡ i) × (q.question ≤ j))

-- what is found fails, and nothing that fails is before it; nothing is found only where nothing fails
abbrev pub IsLeast : {A B : Type 0} → (A → B → Bool) → List A → List B → Option Places → Type 0
IsLeast p things bs found =
    MatchOption found ((i j : ℕ) → fails_at p things bs i j ≡ false)
    (λ q. (fails_at p things bs q.thing q.question ≡ true) × ((i j : ℕ) → fails_at p things bs i j ≡ true → IsNotAfter q i j))
