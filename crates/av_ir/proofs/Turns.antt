-- Parts that are made in turn, up to a place of their list.
use Rattle.std.proofs.Common.{◌≡◌, ap, sym, ◌∙◌, refl, ℕ, ◌+◌, ◌<◌, ◌≤◌, List, [], ◌∷◌, ◌++◌, append_assoc, append-nil, length, get_or, drop, map}
use Rattle.std.proofs.lemmas.List.{drop_more, drop_all}
use Rattle.av_ir.specs.Marks.{Making, in_turn}

-- the copies of the parts up to a place, and the number of loops behind them
pub record IsMadeTo {A : Type 0} (f : A → Making A) (xs : List A) (first i : ℕ) (copies : List A) (loops : ℕ) : Type 0 where
  pub made : copies ++ (in_turn (map f (drop i xs)) loops).made ≡ (in_turn (map f xs) first).made
  pub count : (in_turn (map f (drop i xs)) loops).loops ≡ (in_turn (map f xs) first).loops

module _ {A : Type 0} (f : A → Making A) (xs : List A) (first : ℕ) where
  pub made_to_start : IsMadeTo f xs first 0 [] first
  made_to_start = record { made = refl; count = refl }

  module _ (i : ℕ) (x : A) (copies new : List A) (copy : A) (loops more : ℕ) where
    pub made_more : i < length xs → x ≡ get_or xs i x → copy ≡ (f x loops).made → more ≡ (f x loops).loops → new ≡ copies ++ copy ∷ []
        → IsMadeTo f xs first i copies loops → IsMadeTo f xs first (i + 1) new more
    unfolding in_turn
    made_more below item is counted pushed h =
        let here : drop i xs ≡ x ∷ drop (i + 1) xs = drop_more xs i x below ∙ ap (λ y. y ∷ drop (i + 1) xs) (sym item) in
        let others = λ (n : ℕ). in_turn (map f (drop (i + 1) xs)) n in
        record {
          made =
              ap (λ l. l ++ (others more).made) pushed
              ∙ append_assoc copies (copy ∷ []) (others more).made
              ∙ ap (λ c. copies ++ (c ∷ (others more).made)) is
              ∙ ap (λ n. copies ++ ((f x loops).made ∷ (others n).made)) counted
              ∙ ap (λ l. copies ++ (in_turn (map f l) loops).made) (sym here)
              ∙ h.made;
          count = ap (λ n. (others n).loops) counted ∙ ap (λ l. (in_turn (map f l) loops).loops) (sym here) ∙ h.count;
        }

  module _ (i : ℕ) (copies : List A) (loops : ℕ) where
    pub made_all : length xs ≤ i → IsMadeTo f xs first i copies loops → copies ≡ (in_turn (map f xs) first).made
    unfolding in_turn
    made_all behind h = sym (append-nil copies) ∙ ap (λ l. copies ++ (in_turn (map f l) loops).made) (sym (drop_all i xs behind)) ∙ h.made

    pub counted_all : length xs ≤ i → IsMadeTo f xs first i copies loops → loops ≡ (in_turn (map f xs) first).loops
    unfolding in_turn
    counted_all behind h = ap (λ l. (in_turn (map f l) loops).loops) (sym (drop_all i xs behind)) ∙ h.count
