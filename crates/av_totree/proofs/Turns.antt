-- Parts that are made in turn, up to a place of their list.
use Rattle.std.proofs.Common.{◌≡◌, ap, sym, ◌∙◌, refl, ℕ, ◌+◌, ◌<◌, ◌≤◌, List, [], ◌∷◌, ◌++◌, append_assoc, append-nil, length, get_or, drop, map}
use Rattle.std.proofs.lemmas.List.{drop_more, drop_all}
use Rattle.av_totree.specs.Names.{Naming}
use Rattle.av_totree.specs.Trees.{Made, Making, in_turn}

-- what is made of the parts up to a place, and the names behind them
pub record IsMadeTo {A B : Type 0} (f : A → Making B) (xs : List A) (first : Naming) (i : ℕ) (done : List B) (naming : Naming) : Type 0 where
  pub made : done ++ (in_turn (map f (drop i xs)) naming).made ≡ (in_turn (map f xs) first).made
  pub behind : (in_turn (map f (drop i xs)) naming).naming ≡ (in_turn (map f xs) first).naming

module _ {A B : Type 0} (f : A → Making B) (xs : List A) (first : Naming) where
  module _ (i : ℕ) (x : A) (done new : List B) (part : B) (naming more : Naming) where
    pub made_more : i < length xs → x ≡ get_or xs i x → part ≡ (f x naming).made → more ≡ (f x naming).naming → new ≡ done ++ part ∷ []
        → IsMadeTo f xs first i done naming → IsMadeTo f xs first (i + 1) new more
    unfolding in_turn
    made_more below item is named pushed h =
        let here : drop i xs ≡ x ∷ drop (i + 1) xs = drop_more xs i x below ∙ ap (λ y. y ∷ drop (i + 1) xs) (sym item) in
        let others = λ (n : Naming). in_turn (map f (drop (i + 1) xs)) n in
        record {
          made =
              ap (λ l. l ++ (others more).made) pushed
              ∙ append_assoc done (part ∷ []) (others more).made
              ∙ ap (λ c. done ++ (c ∷ (others more).made)) is
              ∙ ap (λ n. done ++ ((f x naming).made ∷ (others n).made)) named
              ∙ ap (λ l. done ++ (in_turn (map f l) naming).made) (sym here)
              ∙ h.made;
          behind = ap (λ n. (others n).naming) named ∙ ap (λ l. (in_turn (map f l) naming).naming) (sym here) ∙ h.behind;
        }

  module _ (i : ℕ) (done : List B) (naming : Naming) where
    pub made_all : length xs ≤ i → IsMadeTo f xs first i done naming → done ≡ (in_turn (map f xs) first).made
    unfolding in_turn
    made_all past h = sym (append-nil done) ∙ ap (λ l. done ++ (in_turn (map f l) naming).made) (sym (drop_all i xs past)) ∙ h.made

    pub named_all : length xs ≤ i → IsMadeTo f xs first i done naming → naming ≡ (in_turn (map f xs) first).naming
    unfolding in_turn
    named_all past h = ap (λ l. (in_turn (map f l) naming).naming) (sym (drop_all i xs past)) ∙ h.behind
