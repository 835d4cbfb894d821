-- The results of a map, one after the other.
use Rattle.std.proofs.Common.{◌≡◌, ℕ, ◌+◌, ◌^◌, ◌<◌, ◌≤◌, List, [], ◌∷◌, ◌++◌, length, get_or, take, map, sym, ap, ◌∙◌, subst, arith}
use Rattle.std.specs.Prelude.{ℤ, pos, negsuc, unsigned_abs}
use Rattle.std.proofs.lemmas.Int.{ints, to_z-of_z, fits_signed_from_abs}
use Rattle.std.proofs.lemmas.List.{map_more}
use mir.Syntax.{w64}
use mir.Val.{to_z, of_z}
use Rattle.av_affine.specs.Results.{IsIndex}

index_abs : (z : ℤ) → IsIndex z → unsigned_abs z ≤ 2 ^ 47
index_abs (pos n) h = omega (arith, ints)
index_abs (negsuc n) h = omega (arith, ints)

pub index_kept : (z : ℤ) → IsIndex z → to_z w64 (of_z w64 z) ≡ z
index_kept z h = to_z-of_z w64 z (fits_signed_from_abs w64 z (omega (arith, index_abs z h)))

module _ {A : Type 0} (f : A → ℤ) (xs zs : List A) (i : ℕ) (same : zs ≡ xs) where
  pub pushed : (x : A) (v w : ℤ) (items new : List ℤ) → i < length zs → x ≡ get_or zs i x → v ≡ f x → w ≡ v
      → items ≡ map f (take i xs) → new ≡ items ++ w ∷ [] → new ≡ map f (take (i + 1) xs)
  pushed x v w items new l is h k e n =
      let last : w ≡ f (get_or xs i x) = k ∙ h ∙ ap f (is ∙ ap (λ ys. get_or ys i x) same) in
      n ∙ ap (λ u. items ++ u ∷ []) last ∙ ap (λ ys. ys ++ f (get_or xs i x) ∷ []) e
      ∙ sym (map_more f xs i x (subst (λ ys. i < length ys) same l))
