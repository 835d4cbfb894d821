-- A test of each element of a list, in order.
use Rattle.std.proofs.Common.{◌≡◌, ℕ, ◌+◌, ◌<◌, ◌≤◌, List, length, get_or, take, sym, ap, ◌∙◌, subst}
use Rattle.std.specs.List.{All}
use Rattle.std.proofs.lemmas.List.{take_all}
use Rattle.std.proofs.lemmas.List.Elements.{All-more, All-get_or}

module _ {A : Type 0} (P : A → Type 0) (xs zs : List A) (i : ℕ) (same : zs ≡ xs) where
  pub fails_at : (x : A) → i < length zs → x ≡ get_or zs i x → (P x → ⊥) → All P xs → ⊥
  fails_at x l is none h = none (subst P (sym is) (All-get_or P zs i x l (subst (All P) (sym same) h)))

  pub holds_more : (x : A) → i < length zs → x ≡ get_or zs i x → P x → All P (take i xs) → All P (take (i + 1) xs)
  holds_more x l is p h =
      let at : P (get_or xs i x) = subst P (is ∙ ap (λ ys. get_or ys i x) same) p in
      All-more P xs i x (subst (λ ys. i < length ys) same l) h at

  pub holds_all : length zs ≤ i → All P (take i xs) → All P xs
  holds_all l h = subst (All P) (take_all i xs (subst (λ ys. length ys ≤ i) same l)) h
