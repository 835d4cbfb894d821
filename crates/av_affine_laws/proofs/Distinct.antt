-- Lists of values, each once, in the order of first occurrence.
use Rattle.std.proofs.Common.{◌≡◌, ◌≢◌, ◌⊎◌, ℕ, ◌<◌, ◌≤◌, List, [], ◌∷◌, ◌++◌, length, get_or, cond, nat_lt, ◌==◌, Some, None, unwrap_or, Contains, AllPairs, All, refl, sym, ap, subst, ◌∙◌, arith, inl, inr, append_assoc, append-nil, length-append, eqb-true, eq-eqb, ne_eqb, lt-ltb, le-ltb}
use Rattle.std.specs.List.{AllByRecursion, position_or_len}
use Rattle.std.proofs.lemmas.Bool.{cases_lt, cases_eq, eqb-false}
use Rattle.std.proofs.lemmas.List.{get_or_append_left, get_or_at, get_or_default, length_push}
use Rattle.std.proofs.lemmas.List.Elements.{All-push}
use Rattle.std.proofs.lemmas.List.Quantifiers.{all_pairs_push}
use Rattle.std.proofs.lemmas.List.Sums.{position_or_len_is, fails_before_first, passes_at_first, prefix_len-le-length}
use Rattle.av_affine_laws.specs.Normalised.{place_among, with_value}

-- no two are the same
abbrev pub Distinct : List ℕ → Type 0
Distinct values = AllPairs (λ x y. x ≢ y) values

-- each of several values, in turn
abbrev pub with_values : List ℕ → List ℕ → List ℕ
with_values values [] = values
with_values values (x ∷ xs) = with_values (with_value values x) xs

pub with_values-append : (us xs ys : List ℕ) → with_values us (xs ++ ys) ≡ with_values (with_values us xs) ys
with_values-append us [] ys = refl
with_values-append us (x ∷ xs) ys = with_values-append (with_value us x) xs ys

-- ---- places
-- a place within the list, or its end
abbrev or_end : ℕ → ℕ → ℕ
or_end i n = unwrap_or (cond (nat_lt i n) (Some i) None) n

or_end-is : (i n : ℕ) → i ≤ n → or_end i n ≡ i
or_end-is i n h = elim (cases_lt i n) [
  | inl l ↦ ap (λ b. unwrap_or (cond b (Some i) None) n) (lt-ltb i n l)
  | inr l ↦ ap (λ b. unwrap_or (cond b (Some i) None) n) (le-ltb i n l) ∙ (omega arith)
]

pub first_place : (us : List ℕ) (v : ℕ) → place_among us v ≡ position_or_len (λ one. one == v) us
first_place us v = or_end-is (position_or_len (λ one. one == v) us) (length us) (prefix_len-le-length _ us)

-- where nothing before a place is the value, and it is there or the place is the end
pub place_is : (us : List ℕ) (v i : ℕ) → i ≤ length us → ((k : ℕ) → k < i → get_or us k 0 ≢ v) → (i < length us → get_or us i 0 ≡ v) → place_among us v ≡ i
place_is us v i h before at =
    first_place us v
    ∙ position_or_len_is (λ one. one == v) us i 0 h (λ k l. ne_eqb (get_or us k 0) v (before k l)) (λ l. eq-eqb (get_or us i 0) v (at l))

pub place_le : (us : List ℕ) (v : ℕ) → place_among us v ≤ length us
place_le us v = subst (λ n. n ≤ length us) (sym (first_place us v)) (prefix_len-le-length _ us)

pub before_place : (us : List ℕ) (v k : ℕ) → k < place_among us v → get_or us k 0 ≢ v
before_place us v k h =
    eqb-false (get_or us k 0) v (fails_before_first (λ one. one == v) us k 0 (subst (λ n. k < n) (first_place us v) h))

pub at_place : (us : List ℕ) (v : ℕ) → place_among us v < length us → get_or us (place_among us v) 0 ≡ v
at_place us v h =
    subst (λ n. get_or us n 0 ≡ v) (sym (first_place us v))
    (eqb-true (get_or us (position_or_len (λ one. one == v) us) 0) v
    (passes_at_first (λ one. one == v) us 0 (subst (λ n. n < length us) (first_place us v) h)))

-- the value at a place of distinct ones has that place
pub place_of_place : (us : List ℕ) (k : ℕ) → Distinct us → k < length us → place_among us (get_or us k 0) ≡ k
place_of_place us k d h = place_is us (get_or us k 0) k (omega arith) (λ j l. d j k 0 l h) (λ l. refl)

-- a value that stands somewhere
pub place_contained : (us : List ℕ) (v : ℕ) → Contains us v → place_among us v < length us
place_contained us v c = elim (cases_lt (place_among us v) (length us)) [
  | inl l ↦ l
  | inr l ↦ absurd (before_place us v c.0 (omega (arith, c.1)) (get_or_default us c.0 0 v c.1 ∙ c.2))
]

module _ (us ws : List ℕ) (v i : ℕ) (at : place_among us v ≡ i) where
  before_kept : (k : ℕ) → k < i → i ≤ length us → get_or (us ++ ws) k 0 ≢ v
  before_kept k l m e =
      before_place us v k (subst (λ n. k < n) (sym at) l) (sym (get_or_append_left us ws 0 k (omega arith)) ∙ e)

-- what is there stays where it is
pub place_kept : (us ws : List ℕ) (v : ℕ) → place_among us v < length us → place_among (us ++ ws) v ≡ place_among us v
place_kept us ws v h =
    place_is (us ++ ws) v (place_among us v) (omega (arith, length-append us ws))
    (λ k l. before_kept us ws v (place_among us v) refl k l (omega arith))
    (λ l. get_or_append_left us ws 0 (place_among us v) h ∙ at_place us v h)

-- what isn't there comes next
pub place_new : (us ws : List ℕ) (v : ℕ) → place_among us v ≡ length us → place_among (us ++ v ∷ ws) v ≡ length us
place_new us ws v h =
    place_is (us ++ v ∷ ws) v (length us) (omega (arith, length-append us (v ∷ ws)))
    (λ k l. before_kept us (v ∷ ws) v (length us) h k l (omega arith))
    (λ l. get_or_at us v ws 0 (length us) refl)

-- ---- one more value
below : (i n : ℕ) → i ≤ n → i ≢ n → i < n
below i n h g = omega arith

-- it is there, or it comes to the end
pub with_value-cases : (us : List ℕ) (v : ℕ)
    → ((place_among us v < length us) × (with_value us v ≡ us)) ⊎ ((place_among us v ≡ length us) × (with_value us v ≡ us ++ v ∷ []))
with_value-cases us v = elim (cases_eq (place_among us v) (length us)) [
  | inl e ↦ inr (e, ap (λ b. cond b (us ++ v ∷ []) us) (eq-eqb (place_among us v) (length us) e))
  | inr n ↦ inl (below (place_among us v) (length us) (place_le us v) n, ap (λ b. cond b (us ++ v ∷ []) us) (ne_eqb (place_among us v) (length us) n))
]

-- the values keep their places, and have the new one
pub with_value-more : (us : List ℕ) (v : ℕ) → (ws : List ℕ) × (with_value us v ≡ us ++ ws)
with_value-more us v = elim (with_value-cases us v) [
  | inl h ↦ ([], h.1 ∙ sym (append-nil us))
  | inr h ↦ (v ∷ [], h.1)
]

pub with_value-distinct : (us : List ℕ) (v : ℕ) → Distinct us → Distinct (with_value us v)
with_value-distinct us v d = elim (with_value-cases us v) [
  | inl h ↦ subst Distinct (sym h.1) d
  | inr h ↦ subst Distinct (sym h.1)
      (all_pairs_push (λ x y. x ≢ y) us v d (λ k e l q. before_place us v k (omega (arith, h.0)) (get_or_default us k 0 e l ∙ q)))
]

pub with_value-there : (us : List ℕ) (v : ℕ) → place_among (with_value us v) v < length (with_value us v)
with_value-there us v = elim (with_value-cases us v) [
  | inl h ↦ subst (λ ws. place_among ws v < length ws) (sym h.1) h.0
  | inr h ↦ subst (λ ws. place_among ws v < length ws) (sym h.1)
      (subst (λ n. n < length (us ++ v ∷ [])) (sym (place_new us [] v h.0)) (omega (arith, length_push us v)))
]

-- and it isn't beyond the values that were there
pub with_value-place : (us : List ℕ) (v : ℕ) → place_among (with_value us v) v ≤ length us
with_value-place us v = elim (with_value-cases us v) [
  | inl h ↦ subst (λ ws. place_among ws v ≤ length us) (sym h.1) (omega (arith, h.0))
  | inr h ↦ subst (λ ws. place_among ws v ≤ length us) (sym h.1)
      (subst (λ n. n ≤ length us) (sym (place_new us [] v h.0)) (omega arith))
]

pub with_value-all : (P : ℕ → Type 0) (us : List ℕ) (v : ℕ) → All P us → P v → All P (with_value us v)
with_value-all P us v a p = elim (with_value-cases us v) [
  | inl h ↦ subst (All P) (sym h.1) a
  | inr h ↦ subst (All P) (sym h.1) (All-push P us v a p)
]

-- ---- several values
pub with_values-more : (us xs : List ℕ) → (ws : List ℕ) × (with_values us xs ≡ us ++ ws)
with_values-more us [] = ([], sym (append-nil us))
with_values-more us (x ∷ xs) =
    let here = with_value-more us x in
    let later = with_values-more (with_value us x) xs in
    (here.0 ++ later.0, later.1 ∙ ap (λ ys. ys ++ later.0) here.1 ∙ append_assoc us here.0 later.0)

pub with_values-distinct : (us xs : List ℕ) → Distinct us → Distinct (with_values us xs)
with_values-distinct us [] d = d
with_values-distinct us (x ∷ xs) d = with_values-distinct (with_value us x) xs (with_value-distinct us x d)

pub with_values-all : (P : ℕ → Type 0) (us xs : List ℕ) → All P us → AllByRecursion P xs → All P (with_values us xs)
with_values-all P us [] a p = a
with_values-all P us (x ∷ xs) a p = with_values-all P (with_value us x) xs (with_value-all P us x a p.0) p.1

-- a value that is there keeps its place
pub with_values-place : (us xs : List ℕ) (v : ℕ) → place_among us v < length us → place_among (with_values us xs) v ≡ place_among us v
with_values-place us xs v h =
    let more = with_values-more us xs in
    ap (λ ws. place_among ws v) more.1 ∙ place_kept us more.0 v h

pub with_values-length : (us xs : List ℕ) → length us ≤ length (with_values us xs)
with_values-length us xs =
    let more = with_values-more us xs in
    subst (λ ws. length us ≤ length ws) (sym more.1) (omega (arith, length-append us more.0))

-- all of them are there
pub with_values-there : (us xs : List ℕ)
    → AllByRecursion (λ v. place_among (with_values us xs) v < length (with_values us xs)) xs
with_values-there us [] = tt
with_values-there us (x ∷ xs) = (
  subst (λ n. n < length (with_values (with_value us x) xs)) (sym (with_values-place (with_value us x) xs x (with_value-there us x)))
      (omega (arith, with_value-there us x, with_values-length (with_value us x) xs)),
  with_values-there (with_value us x) xs,
)
