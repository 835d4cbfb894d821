-- The first thing that fails a question, with the first question that it fails, is found.
use Rattle.std.proofs.Common.{◌≡◌, ℕ, zero, suc, ◌≤◌, inl, inr, Bool, true, false, if◌then◌else◌, List, [], ◌∷◌, Option, None, Some, MatchOption, option_map, arith, refl, ap}
use Rattle.av_tree.specs.declared.node.Tree.{Tree}
use Rattle.av_rules.specs.declared.mode.Mode.{Mode}
use Rattle.av_rules.specs.Fails.{Fails, IsFirst, LeastLaw, all_codes, breaks, failing}
use Rattle.av_rules.specs.Least.{IsLeast, IsNotAfter, Places, after_one, fails_at, first_place, found_first, least_places, passes_at}
use Rattle.av_rules.specs.Sites.{sites}

-- ---- the first place
-- what is found passes, and nothing before it; nothing is found only where nothing passes
IsFirstPlace : {B : Type 0} → (B → Bool) → List B → Option ℕ → Type 0
IsFirstPlace p bs found =
    MatchOption found ((j : ℕ) → passes_at p bs j ≡ false) (λ j. (passes_at p bs j ≡ true) × ((i : ℕ) → passes_at p bs i ≡ true → j ≤ i))

none-passes : {B : Type 0} (p : B → Bool) (b : B) (bs : List B) → p b ≡ false → ((j : ℕ) → passes_at p bs j ≡ false)
    → (j : ℕ) → passes_at p (b ∷ bs) j ≡ false
none-passes p b bs here h zero = here
none-passes p b bs here h (suc j) = h j

not-before : {B : Type 0} (p : B → Bool) (b : B) (bs : List B) (j : ℕ) → p b ≡ false → ((i : ℕ) → passes_at p bs i ≡ true → j ≤ i)
    → (i : ℕ) → passes_at p (b ∷ bs) i ≡ true → suc j ≤ i
not-before p b bs j here h zero e = cc
not-before p b bs j here h (suc i) e = let le : j ≤ i = h i e in omega (arith, le)

with-one : {B : Type 0} (p : B → Bool) (b : B) (bs : List B) (here : Bool) → p b ≡ here → (rest : Option ℕ) → IsFirstPlace p bs rest
    → IsFirstPlace p (b ∷ bs) (if here then Some 0 else option_map suc rest)
unfolding IsFirstPlace
with-one p b bs true e rest h = (e, λ i le. omega arith)
with-one p b bs false e None h = none-passes p b bs e h
with-one p b bs false e (Some j) h = (h.0, not-before p b bs j e h.1)

first-is-first : {B : Type 0} (p : B → Bool) (bs : List B) → IsFirstPlace p bs (first_place p bs)
unfolding IsFirstPlace
first-is-first p [] = λ j. refl
first-is-first p (b ∷ bs) = with-one p b bs (p b) refl (first_place p bs) (first-is-first p bs)

-- ---- the first thing
none-fails : {A B : Type 0} (p : A → B → Bool) (a : A) (things : List A) (bs : List B) → ((j : ℕ) → passes_at (p a) bs j ≡ false)
    → ((i j : ℕ) → fails_at p things bs i j ≡ false) → (i j : ℕ) → fails_at p (a ∷ things) bs i j ≡ false
none-fails p a things bs here h zero j = here j
none-fails p a things bs here h (suc i) j = h i j

earlier : (q : Places) (i j : ℕ) → IsNotAfter q i j → IsNotAfter (after_one q) (suc i) j
earlier q i j (inl lt) = inl (omega (arith, lt))
earlier q i j (inr same) = inr (ap suc same.0, same.1)

-- where the first thing fails nothing
later : {A B : Type 0} (p : A → B → Bool) (a : A) (things : List A) (bs : List B) (q : Places) → ((j : ℕ) → passes_at (p a) bs j ≡ false)
    → ((i j : ℕ) → fails_at p things bs i j ≡ true → IsNotAfter q i j) → (i j : ℕ) → fails_at p (a ∷ things) bs i j ≡ true
    → IsNotAfter (after_one q) i j
later p a things bs q here h zero j e = let no : passes_at (p a) bs j ≡ false = here j in cc
later p a things bs q here h (suc i) j e = earlier q i j (h i j e)

-- where it fails one
at-once : {A B : Type 0} (p : A → B → Bool) (a : A) (things : List A) (bs : List B) (first : ℕ)
    → ((j : ℕ) → passes_at (p a) bs j ≡ true → first ≤ j) → (i j : ℕ) → fails_at p (a ∷ things) bs i j ≡ true
    → IsNotAfter (record { thing = 0; question = first }) i j
at-once p a things bs first h zero j e = inr (refl, h j e)
at-once p a things bs first h (suc i) j e = inl (omega arith)

with-thing : {A B : Type 0} (p : A → B → Bool) (a : A) (things : List A) (bs : List B) (here : Option ℕ) → IsFirstPlace (p a) bs here
    → (rest : Option Places) → IsLeast p things bs rest → IsLeast p (a ∷ things) bs (found_first here rest)
unfolding IsFirstPlace
with-thing p a things bs (Some first) f rest h = (f.0, at-once p a things bs first f.1)
with-thing p a things bs None f None h = none-fails p a things bs f h
with-thing p a things bs None f (Some q) h = (h.0, later p a things bs q f h.1)

least-is-least : {A B : Type 0} (p : A → B → Bool) (things : List A) (bs : List B) → IsLeast p things bs (least_places p things bs)
least-is-least p [] bs = λ i j. refl
least-is-least p (a ∷ things) bs =
    with-thing p a things bs (first_place (p a) bs) (first-is-first (p a) bs) (least_places p things bs) (least-is-least p things bs)

-- ---- codes, of which V1 is the first
none-at : (tree : Tree) (mode : Mode) → ((i j : ℕ) → fails_at (breaks (sites tree mode)) (sites tree mode) all_codes i j ≡ false)
    → (k c : ℕ) → ¬ (Fails tree mode k c)
none-at tree mode h k zero e = cc
none-at tree mode h k (suc c) e = let no : fails_at (breaks (sites tree mode)) (sites tree mode) all_codes k c ≡ false = h k c in cc

by-number : (q : Places) (k c : ℕ) → IsNotAfter q k c → IsFirst (failing q) k (suc c)
by-number q k c (inl lt) = inl lt
by-number q k c (inr same) = inr (same.0, omega (arith, same.1))

first-at : (tree : Tree) (mode : Mode) (q : Places)
    → ((i j : ℕ) → fails_at (breaks (sites tree mode)) (sites tree mode) all_codes i j ≡ true → IsNotAfter q i j)
    → (k c : ℕ) → Fails tree mode k c → IsFirst (failing q) k c
first-at tree mode q h k zero e = cc
first-at tree mode q h k (suc c) e = by-number q k c (h k c e)

numbered : (tree : Tree) (mode : Mode) (found : Option Places) → IsLeast (breaks (sites tree mode)) (sites tree mode) all_codes found
    → MatchOption (option_map failing found) ((k c : ℕ) → ¬ (Fails tree mode k c))
    (λ f. Fails tree mode f.operation f.code × ((k c : ℕ) → Fails tree mode k c → IsFirst f k c))
numbered tree mode None h = none-at tree mode h
numbered tree mode (Some q) h = (h.0, first-at tree mode q h.1)

pub least-law : LeastLaw
least-law tree mode =
    numbered tree mode (least_places (breaks (sites tree mode)) (sites tree mode) all_codes)
    (least-is-least (breaks (sites tree mode)) (sites tree mode) all_codes)
