-- The regions of an operation in its environment.
use Rattle.std.proofs.Common.{◌≡◌, List, [], ◌∷◌, map, ap, refl}

module _ {A B C : Type 0} (f : A → B → C) (b : B) where
  pub each_at : (xs : List A) → map (λ g. g b) (map f xs) ≡ map (λ x. f x b) xs
  each_at [] = refl
  each_at (x ∷ xs) = ap (λ ys. f x b ∷ ys) (each_at xs)
