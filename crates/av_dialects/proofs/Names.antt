-- Names and the numbers of the operations that have them.
use Rattle.std.proofs.Common.{◌≡◌, ◌≢◌, ℕ, ◌<◌, ◌&&◌, ◌||◌, Bool, true, false, not, zero, suc, List, [], ◌∷◌, length, map, slice_get, Option, None, Some, option_map, if◌then◌else◌, All, IfSome, MatchOption, arith, refl, ap, sym, ◌∙◌}
use Rattle.std.specs.List.{HoldsAt, list_any}
use Rattle.std.specs.Str.{bytes_eq}
use Rattle.std.proofs.lemmas.Bool.{false≢true}
use Rattle.std.proofs.lemmas.Slice.Eq.{bytes_eq-Decides}
use Rattle.av_dialects.specs.Rows.{IsNoneOf, are_distinct, names, number_of, place_in}
use Rattle.av_dialects.specs.TableLaws.{NamesLaw}

-- ---- names that differ
both : (a b : Bool) → (a && b) ≡ true → (a ≡ true) × (b ≡ true)
both true b h = (refl, h)
both false b h = cc

or-left : (a b : Bool) → a ≡ true → (a || b) ≡ true
or-left true b h = refl
or-left false b h = cc

or-right : (a b : Bool) → b ≡ true → (a || b) ≡ true
or-right true b h = refl
or-right false b h = h

clash : (b : Bool) → not b ≡ true → b ≡ true → ⊥
clash true h i = cc
clash false h i = cc

in-list : (ns : List (List ℕ)) (name : List ℕ) (k : ℕ) → slice_get ns k ≡ Some name → list_any (bytes_eq name) ns ≡ true
in-list [] name k h = cc
in-list (n ∷ ns) name zero h = or-left (bytes_eq name n) (list_any (bytes_eq name) ns) ((bytes_eq-Decides name n).1 (cc))
in-list (n ∷ ns) name (suc k) h = or-right (bytes_eq name n) (list_any (bytes_eq name) ns) (in-list ns name k h)

-- the first name isn't among the others
apart : (n : List ℕ) (ns : List (List ℕ)) (k : ℕ) (name : List ℕ) → are_distinct (n ∷ ns) ≡ true → Some n ≡ Some name
    → slice_get ns k ≡ Some name → ⊥
apart n ns k name h a b =
    clash (list_any (bytes_eq n) ns) ((both (not (list_any (bytes_eq n) ns)) (are_distinct ns) h).0) (in-list ns n k (b ∙ sym a))

one-place : (ns : List (List ℕ)) → are_distinct ns ≡ true → (j k : ℕ) (name : List ℕ) → slice_get ns j ≡ Some name → slice_get ns k ≡ Some name → j ≡ k
one-place [] h j k name a b = cc
one-place (n ∷ ns) h zero zero name a b = refl
one-place (n ∷ ns) h zero (suc k) name a b = absurd (apart n ns k name h a b)
one-place (n ∷ ns) h (suc j) zero name a b = absurd (apart n ns j name h b a)
one-place (n ∷ ns) h (suc j) (suc k) name a b =
    ap suc (one-place ns ((both (not (list_any (bytes_eq n) ns)) (are_distinct ns) h).1) j k name a b)

distinct-names : are_distinct names ≡ true
unfolding names
distinct-names = refl

pub names-law : NamesLaw
names-law j k name h i = one-place names distinct-names j k name h i

-- ---- what a search finds
none-named : {X : Type 0} (f : X → List ℕ) (name : List ℕ) (xs : List X) → All (λ x. f x ≢ name) xs
    → (k : ℕ) → slice_get (map f xs) k ≡ Some name → ⊥
none-named f name [] h k e = cc
none-named f name (x ∷ xs) h zero e = h 0 x (omega arith) (cc)
none-named f name (x ∷ xs) h (suc k) e = none-named f name xs (λ i d lt. h (suc i) d (omega arith)) k e

named-at : {X : Type 0} (f : X → List ℕ) (name : List ℕ) (xs : List X) (k : ℕ) → k < length xs → HoldsAt (λ x. f x ≡ name) xs k
    → slice_get (map f xs) k ≡ Some name
named-at f name [] k lt h = absurd (omega arith)
named-at f name (x ∷ xs) zero lt h = ap Some (h x)
named-at f name (x ∷ xs) (suc k) lt h = named-at f name xs k (omega arith) h

pub what-is-found : {X : Type 0} (f : X → List ℕ) (name : List ℕ) (xs : List X) (found : Option ℕ)
    → MatchOption found (All (λ x. f x ≢ name) xs) (λ k. HoldsAt (λ x. f x ≡ name) xs k) → IfSome found (λ k. k < length xs)
    → MatchOption found (IsNoneOf (map f xs) name) (λ k. slice_get (map f xs) k ≡ Some name)
what-is-found f name xs None h within = none-named f name xs h
what-is-found f name xs (Some k) h within = named-at f name xs k within h

-- ---- the first place
nowhere : (n : List ℕ) (ns : List (List ℕ)) (name : List ℕ) → (n ≡ name → ⊥) → IsNoneOf ns name → (k : ℕ) → slice_get (n ∷ ns) k ≡ Some name → ⊥
nowhere n ns name f h zero e = f (cc)
nowhere n ns name f h (suc k) e = h k e

first-or-later : (same : Bool) (n : List ℕ) (ns : List (List ℕ)) (name : List ℕ) → (same ≡ true → n ≡ name) → (n ≡ name → same ≡ true) → (later : Option ℕ)
    → MatchOption later (IsNoneOf ns name) (λ k. slice_get ns k ≡ Some name)
    → MatchOption (if same then Some 0 else option_map suc later) (IsNoneOf (n ∷ ns) name) (λ k. slice_get (n ∷ ns) k ≡ Some name)
first-or-later true n ns name f g later h = ap Some (f refl)
first-or-later false n ns name f g None h = λ k e. nowhere n ns name (λ i. false≢true (g i)) h k e
first-or-later false n ns name f g (Some k) h = h

place-found : (ns : List (List ℕ)) (name : List ℕ) → MatchOption (place_in ns name) (IsNoneOf ns name) (λ k. slice_get ns k ≡ Some name)
place-found [] name = λ k e. cc
place-found (n ∷ ns) name = first-or-later (bytes_eq n name) n ns name (bytes_eq-Decides n name).0 (bytes_eq-Decides n name).1 (place_in ns name) (place-found ns name)

same-finds : (ns : List (List ℕ)) (name : List ℕ) → are_distinct ns ≡ true → (a b : Option ℕ)
    → MatchOption a (IsNoneOf ns name) (λ k. slice_get ns k ≡ Some name) → MatchOption b (IsNoneOf ns name) (λ k. slice_get ns k ≡ Some name) → a ≡ b
same-finds ns name d None None h i = refl
same-finds ns name d None (Some k) h i = absurd (h k i)
same-finds ns name d (Some j) None h i = absurd (i j h)
same-finds ns name d (Some j) (Some k) h i = ap Some (one-place ns d j k name h i)

pub number-found : (name : List ℕ) (found : Option ℕ) → MatchOption found (IsNoneOf names name) (λ k. slice_get names k ≡ Some name)
    → found ≡ number_of name
number-found name found h = same-finds names name distinct-names found (number_of name) h (place-found names name)
