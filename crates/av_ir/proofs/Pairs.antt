-- What holds of each pair of two lists, pair after pair.
use Rattle.std.proofs.Common.{◌≡◌, ◌↔◌, ℕ, suc, ◌+◌, ◌≤◌, List, [], ◌∷◌, length, drop, ap, sym, refl, subst}
use Rattle.std.specs.List.{AllZip}
use Rattle.std.proofs.lemmas.List.{drop_all}

module _ {A B : Type 0} (R : A → B → Type 0) where
  -- the lists have one length
  pub in_pairs : (xs : List A) (ys : List B) → AllZip R xs ys → length xs ≡ length ys
  in_pairs [] [] h = refl
  in_pairs [] (y ∷ ys) h = absurd h
  in_pairs (x ∷ xs) [] h = absurd h
  in_pairs (x ∷ xs) (y ∷ ys) h = ap suc (in_pairs xs ys h.1)

  module _ (xs : List A) (ys : List B) (i : ℕ) where
    module _ (x : A) (y : B) (first : drop i xs ≡ x ∷ drop (i + 1) xs) (second : drop i ys ≡ y ∷ drop (i + 1) ys) (h : AllZip R (drop i xs) (drop i ys) ↔ AllZip R xs ys) where
      opened : AllZip R (drop i xs) (drop i ys) → R x y × AllZip R (drop (i + 1) xs) (drop (i + 1) ys)
      opened p = subst (λ l. AllZip R (x ∷ drop (i + 1) xs) l) second (subst (λ l. AllZip R l (drop i ys)) first p)

      closed : R x y → AllZip R (drop (i + 1) xs) (drop (i + 1) ys) → AllZip R (drop i xs) (drop i ys)
      closed r p = subst (λ l. AllZip R l (drop i ys)) (sym first) (subst (λ l. AllZip R (x ∷ drop (i + 1) xs) l) (sym second) (r, p))

      -- a pair fails
      pub pair_fails : (R x y → ⊥) → AllZip R xs ys → ⊥
      pair_fails none p = none (opened (h.1 p)).0

      -- a pair holds
      pub pair_holds : R x y → AllZip R (drop (i + 1) xs) (drop (i + 1) ys) ↔ AllZip R xs ys
      pair_holds r = (λ p. h.0 (closed r p), λ p. (opened (h.1 p)).1)

    pub pairs_end : length xs ≤ i → length ys ≤ i → (AllZip R (drop i xs) (drop i ys) ↔ AllZip R xs ys) → AllZip R xs ys
    pairs_end a b h = h.0 (subst (λ l. AllZip R l (drop i ys)) (sym (drop_all i xs a)) (subst (λ l. AllZip R [] l) (sym (drop_all i ys b)) tt))
