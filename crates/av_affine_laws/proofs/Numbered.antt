-- Numbers by first occurrence: those that normalising gives, and that it leaves them as they are.
use Rattle.std.proofs.Common.{◌≡◌, ◌⊎◌, ◌↔◌, ℕ, suc, zero, ◌+◌, ◌<◌, ◌≤◌, List, [], ◌∷◌, ◌++◌, length, get_or, slice_index, map, take, drop, Contains, All, refl, sym, ap, subst, ◌∙◌, arith, inl, inr, append_assoc, append-nil, length-append, take-append-drop, take_at}
use Rattle.std.proofs.lemmas.Bool.{cases_lt, cases_order}
use Rattle.std.proofs.lemmas.List.{get_or_append_left, get_or_at, get_or_default, get_or-map, get_or-take, length-map, length-take-le, take-map, take_all, take_more, drop_more}
use Rattle.std.proofs.lemmas.List.Elements.{All-nil, All-get_or, All-map, All-contains, All-from_recursion, Contains-append_left, Contains-push, Contains-push_cases, Contains-get_or, All-contains_itself, recursion_from_All}
use Rattle.av_affine_laws.specs.Normalised.{IsNumbered, place_among, with_value}
use Rattle.av_affine_laws.proofs.Distinct.{Distinct, with_values, with_values-append, place_is, place_of_place, place_contained, with_value-cases, with_value-there, with_value-place, with_values-more, with_values-distinct, with_values-all, with_values-place, with_values-there}

Contains-map : (f : ℕ → ℕ) (xs : List ℕ) (x : ℕ) → Contains xs x → Contains (map f xs) (f x)
Contains-map f xs x c = (c.0, subst (λ n. c.0 < n) (sym (length-map xs f)) c.1, get_or-map f xs c.0 x (f x) c.1 ∙ ap f c.2)

-- ---- what normalising gives
-- the values that occur, each once
abbrev pub once : List ℕ → List ℕ
once xs = with_values [] xs

no_two : Distinct []
no_two i j d h l = absurd (omega (arith, l))

pub once-distinct : (xs : List ℕ) → Distinct (once xs)
once-distinct xs = with_values-distinct [] xs no_two

once-contained : (xs : List ℕ) (k : ℕ) → k < length (once xs) → Contains xs (get_or (once xs) k 0)
once-contained xs k h =
    All-get_or (Contains xs) (once xs) k 0 h
    (with_values-all (Contains xs) [] xs (All-nil (Contains xs)) (recursion_from_All (Contains xs) xs (All-contains_itself xs)))

-- the numbers of values by their places
abbrev numbers : List ℕ → List ℕ
numbers xs = map (place_among (once xs)) xs

numbers-each : (xs : List ℕ) (k : ℕ) → k < length (once xs) → Contains (numbers xs) k
numbers-each xs k h =
    subst (Contains (numbers xs)) (place_of_place (once xs) k (once-distinct xs) h)
    (Contains-map (place_among (once xs)) xs (get_or (once xs) k 0) (once-contained xs k h))

pub numbers-below : (xs : List ℕ) → All (λ k. k < length (once xs)) (numbers xs)
numbers-below xs =
    All-map (λ k. k < length (once xs)) (place_among (once xs)) xs
    (All-from_recursion (λ v. place_among (once xs) v < length (once xs)) xs (with_values-there [] xs))

-- the place of a value is at most the number of those that occur before it
place_after : (before after : List ℕ) (x : ℕ) → place_among (once (before ++ x ∷ after)) x ≤ length (once before)
place_after before after x =
    subst (λ us. place_among us x ≤ length (once before)) (sym (with_values-append [] before (x ∷ after)))
    (subst (λ n. n ≤ length (once before)) (sym (with_values-place (with_value (once before) x) after x (with_value-there (once before) x)))
    (with_value-place (once before) x))

-- and a place below that one is of a value that occurs before
lower_before : (before after : List ℕ) (x k : ℕ) → k < length (once before)
    → Contains (map (place_among (once (before ++ x ∷ after))) before) k
lower_before before after x k h =
    let us = once (before ++ x ∷ after) in
    let more = with_values-more (once before) (x ∷ after) in
    let longer = with_values-append [] before (x ∷ after) ∙ more.1 in
    let same = ap (λ vs. get_or vs k 0) longer ∙ get_or_append_left (once before) more.0 0 k h in
    let within = subst (λ vs. k < length vs) (sym longer) (omega (arith, length-append (once before) more.0, h)) in
    subst (Contains (map (place_among us) before))
    (ap (place_among us) (sym same) ∙ place_of_place us k (once-distinct (before ++ x ∷ after)) within)
    (Contains-map (place_among us) before (get_or (once before) k 0) (once-contained before k h))

numbers-order : (xs before after : List ℕ) (x k : ℕ) → xs ≡ before ++ x ∷ after → place_among (once xs) x ≡ k + 1
    → Contains (map (place_among (once xs)) before) k
numbers-order xs before after x k e p =
    subst (λ ys. Contains (map (place_among (once ys)) before) k) (sym e)
    (lower_before before after x k
    (omega (arith, place_after before after x, subst (λ ys. place_among (once ys) x ≡ k + 1) e p)))

split_at : (xs : List ℕ) (i : ℕ) → i < length xs → xs ≡ take i xs ++ get_or xs i 0 ∷ drop (i + 1) xs
split_at xs i h = sym (take-append-drop i xs) ∙ ap (λ ys. take i xs ++ ys) (drop_more xs i 0 h)

pub numbered : (xs : List ℕ) → IsNumbered (length (once xs)) (numbers xs)
numbered xs = record {
  each = λ k. (numbers-each xs k, λ c. All-contains (λ j. j < length (once xs)) (numbers xs) k (numbers-below xs) c);
  in_order = λ i k h e.
      let l = subst (λ n. i < n) (length-map xs (place_among (once xs))) h in
      subst (λ ys. Contains ys k) (sym (take-map (place_among (once xs)) i xs))
      (numbers-order xs (take i xs) (drop (i + 1) xs) (get_or xs i 0) k (split_at xs i l)
      (sym (get_or-map (place_among (once xs)) xs i 0 0 l) ∙ e));
}

-- ---- what it leaves
-- each number has been met, as those below n, or is the next
abbrev Grows : ℕ → List ℕ → ℕ → Type 0
Grows n [] count = n ≡ count
Grows n (k ∷ ks) count = ((k < n) × Grows n ks count) ⊎ ((k ≡ n) × Grows (n + 1) ks count)

grows-le : (n : ℕ) (ks : List ℕ) (count : ℕ) → Grows n ks count → n ≤ count
grows-le n [] count h = omega (arith, h)
grows-le n (k ∷ ks) count (inl h) = grows-le n ks count h.1
grows-le n (k ∷ ks) count (inr h) = omega (arith, grows-le (n + 1) ks count h.1)

same_bound : (m n : ℕ) → ((k : ℕ) → k < m → k < n) → ((k : ℕ) → k < n → k < m) → m ≡ n
same_bound m n h g = elim (cases_order m n) [
  | inl e ↦ e
  | inr (inl l) ↦ absurd (omega (arith, g m l))
  | inr (inr l) ↦ absurd (omega (arith, h n l))
]

next_number : (k n : ℕ) → n ≤ k → ((j : ℕ) → k ≡ j + 1 → j < n) → k ≡ n
next_number zero n h g = omega arith
next_number (suc j) n h g = omega (arith, g j (omega arith))

-- exactly the numbers below n are in the list
abbrev Seen : ℕ → List ℕ → Type 0
Seen n before = (k : ℕ) → k < n ↔ Contains before k

seen_again : (n : ℕ) (before : List ℕ) (k : ℕ) → k < n → Seen n before → Seen n (before ++ k ∷ [])
seen_again n before k l seen j = (
  λ h. Contains-append_left before (k ∷ []) j ((seen j).0 h),
  λ c. elim (Contains-push_cases before k j c) [ inl d ↦ (seen j).1 d | inr e ↦ subst (λ i. i < n) e l ],
)

seen_next : (n : ℕ) (before : List ℕ) (k : ℕ) → k ≡ n → Seen n before → Seen (n + 1) (before ++ k ∷ [])
seen_next n before k q seen j = (
  λ h. elim (cases_lt j n) [
    | inl l ↦ Contains-append_left before (k ∷ []) j ((seen j).0 l)
    | inr l ↦ subst (Contains (before ++ k ∷ [])) (omega (arith, h, q)) (Contains-push before k)
  ],
  λ c. elim (Contains-push_cases before k j c) [ inl d ↦ omega (arith, (seen j).1 d) | inr e ↦ omega (arith, q, e) ],
)

module _ (count : ℕ) (ks : List ℕ) (h : IsNumbered count ks) where
  lower_seen : (before rest : List ℕ) (k n : ℕ) → ks ≡ before ++ k ∷ rest → Seen n before → (j : ℕ) → k ≡ j + 1 → j < n
  lower_seen before rest k n e seen j q =
      let within = subst (λ ys. length before < length ys) (sym e) (omega (arith, length-append before (k ∷ rest))) in
      let there = ap (λ ys. slice_index ys (length before)) e ∙ get_or_at before k rest 0 (length before) refl ∙ q in
      (seen j).1
      (subst (λ ys. Contains ys j) (ap (take (length before)) e ∙ take_at before (k ∷ rest) (length before) refl)
      (h.in_order (length before) j within there))

  grows : (rest before : List ℕ) (n : ℕ) → ks ≡ before ++ rest → Seen n before → Grows n rest count
  grows [] before n e seen =
      let same = e ∙ append-nil before in
      same_bound n count
      (λ k l. (h.each k).1 (subst (λ ys. Contains ys k) (sym same) ((seen k).0 l)))
      (λ k l. (seen k).1 (subst (λ ys. Contains ys k) same ((h.each k).0 l)))
  grows (k ∷ rest) before n e seen =
      let longer = e ∙ sym (append_assoc before (k ∷ []) rest) in
      elim (cases_lt k n) [
        | inl l ↦ inl (l, grows rest (before ++ k ∷ []) n longer (seen_again n before k l seen))
        | inr l ↦
            let q = next_number k n l (lower_seen before rest k n e seen) in
            inr (q, grows rest (before ++ k ∷ []) (n + 1) longer (seen_next n before k q seen))
      ]

nothing_seen : Seen 0 []
nothing_seen k = (λ h. absurd (omega (arith, h)), λ c. absurd (omega (arith, c.1)))

-- a value among the first n comes again
old_value : (vs : List ℕ) (n k : ℕ) → n ≤ length vs → k < n → with_value (take n vs) (get_or vs k 0) ≡ take n vs
old_value vs n k m l =
    let v = get_or vs k 0 in
    let c : Contains (take n vs) v = (k, omega (arith, length-take-le n vs m), get_or-take n vs k v l ∙ get_or_default vs k v 0 (omega arith)) in
    elim (with_value-cases (take n vs) v) [
      | inl h ↦ h.1
      | inr h ↦ absurd (omega (arith, place_contained (take n vs) v c, h.0))
    ]

-- the next value comes to the end
new_place : (vs : List ℕ) (n : ℕ) → Distinct vs → n < length vs → place_among (take n vs) (get_or vs n 0) ≡ length (take n vs)
new_place vs n d m =
    place_is (take n vs) (get_or vs n 0) (length (take n vs)) (omega arith)
    (λ k l q.
    let j : k < n = omega (arith, length-take-le n vs (omega arith), l) in
    d k n 0 j m (sym (get_or-take n vs k 0 j) ∙ q))
    (λ l. absurd (omega (arith, l)))

new_value : (vs : List ℕ) (n : ℕ) → Distinct vs → n < length vs → with_value (take n vs) (get_or vs n 0) ≡ take (n + 1) vs
new_value vs n d m = elim (with_value-cases (take n vs) (get_or vs n 0)) [
  | inl h ↦ absurd (omega (arith, h.0, new_place vs n d m))
  | inr h ↦ h.1 ∙ sym (take_more vs n 0 m)
]

regrown : (vs ks : List ℕ) (n : ℕ) → Distinct vs → Grows n ks (length vs) → with_values (take n vs) (map (slice_index vs) ks) ≡ vs
regrown vs [] n d g = take_all n vs (omega (arith, g))
regrown vs (k ∷ ks) n d (inl g) =
    ap (λ us. with_values us (map (slice_index vs) ks)) (old_value vs n k (grows-le n ks (length vs) g.1) g.0) ∙ regrown vs ks n d g.1
regrown vs (k ∷ ks) n d (inr g) =
    ap (λ i. with_values (with_value (take n vs) (get_or vs i 0)) (map (slice_index vs) ks)) g.0
    ∙ ap (λ us. with_values us (map (slice_index vs) ks)) (new_value vs n d (omega (arith, grows-le (n + 1) ks (length vs) g.1)))
    ∙ regrown vs ks (n + 1) d g.1

-- the values of numbered parameters, each once, are their operands
pub once-numbered : (vs ks : List ℕ) → Distinct vs → IsNumbered (length vs) ks → once (map (slice_index vs) ks) ≡ vs
once-numbered vs ks d h = regrown vs ks 0 d (grows (length vs) ks h ks [] 0 refl nothing_seen)

pub numbered-below : (count : ℕ) (ks : List ℕ) → IsNumbered count ks → All (λ k. k < count) ks
numbered-below count ks h = λ i d l. (h.each (get_or ks i d)).1 (Contains-get_or ks i d l)
