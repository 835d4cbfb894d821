-- Terms added at their places.
use Rattle.std.proofs.Common.{◌≡◌, ℕ, zero, suc, ◌+◌, ◌<◌, ◌≤◌, List, [], ◌∷◌, ◌++◌, length, get_or, take, drop, set, insert, true, false, cond, refl, sym, ap, ◌∙◌, arith, append_assoc, add-one, ◌+ℤ◌}
use Rattle.std.specs.Prelude.{ℤ, pos, unsigned_abs}
use Rattle.std.proofs.Math.Seq.{drop-cons, take-suc}
use Rattle.std.proofs.lemmas.List.{drop_all}
use Rattle.av_affine.specs.declared.linear.Term.{Term}
use Rattle.av_affine.specs.declared.linear.Opaque.{Opaque}
use Rattle.av_affine.specs.Forms.{add_term, same_leaf, is_before, term_unless_zero, factor_of}
use Rattle.av_affine.specs.Sizes.{terms_size, opaques_size}
use Rattle.av_affine.specs.Places.{term_raised}
use Rattle.av_affine.proofs.Pairwise.{any_default}
use Rattle.av_affine.proofs.Placed.{int_eq-false}

set_split : {A : Type 0} (xs : List A) (i : ℕ) (y : A) → i < length xs → set xs i y ≡ take i xs ++ (y ∷ drop (suc i) xs)
set_split [] i y h = absurd (omega arith)
set_split (x ∷ xs) zero y h = refl
set_split (x ∷ xs) (suc i) y h = ap (λ ys. x ∷ ys) (set_split xs i y (omega arith))

term_back : (ts : List Term) (i : ℕ) (c d : Term) (f g z : ℤ) → i < length ts → g ≡ (get_or ts i c).factor +ℤ f → z ≡ g → (g ≡ pos 0 → ⊥)
    → set ts i (record { leaf = (get_or ts i c).leaf; factor = z }) ≡ term_raised ts i d f
term_back ts i c d f g z h e s n =
    set_split ts i (record { leaf = (get_or ts i c).leaf; factor = z }) h
    ∙ ap (λ v. take i ts ++ (record { leaf = (get_or ts i c).leaf; factor = v } ∷ drop (suc i) ts)) s
    ∙ ap (λ b. take i ts ++ cond b (drop (suc i) ts) (record { leaf = (get_or ts i c).leaf; factor = g } ∷ drop (suc i) ts)) (sym (int_eq-false g (pos 0) n))
    ∙ ap (λ v. take i ts ++ term_unless_zero (get_or ts i c).leaf v (drop (suc i) ts)) e
    ∙ ap (λ t. take i ts ++ term_unless_zero t.leaf (t.factor +ℤ f) (drop (suc i) ts)) (any_default ts i c d h)

-- the same where the term was read from an equal list
pub term_back_from : (ts us : List Term) → us ≡ ts → (i : ℕ) (c d : Term) (f g z : ℤ) → i < length ts → g ≡ (get_or us i c).factor +ℤ f → z ≡ g → (g ≡ pos 0 → ⊥)
    → set ts i (record { leaf = (get_or us i c).leaf; factor = z }) ≡ term_raised ts i d f
term_back_from ts us same i c d f g z h e s n =
    ap (λ v. set ts i (record { leaf = (get_or v i c).leaf; factor = z })) same
    ∙ term_back ts i c d f g z h (e ∙ ap (λ v. (get_or v i c).factor +ℤ f) same) s n

-- ---- the place of a term
module _ (u : Term) (ts : List Term) (i : ℕ) (d : Term) (inside : i < length ts) where
  opened_term : take i ts ++ add_term u (drop i ts)
      ≡ take i ts ++ cond (same_leaf u.leaf (get_or ts i d).leaf) (term_unless_zero (get_or ts i d).leaf ((get_or ts i d).factor +ℤ u.factor) (drop (suc i) ts))
      (cond (is_before u.leaf (get_or ts i d).leaf) (u ∷ (get_or ts i d ∷ drop (suc i) ts)) (get_or ts i d ∷ add_term u (drop (suc i) ts)))
  unfolding add_term
  opened_term = ap (λ qs. take i ts ++ add_term u qs) (drop-cons ts i d inside)

  pub term_found : same_leaf u.leaf (get_or ts i d).leaf ≡ true → (c : Term) → take i ts ++ add_term u (drop i ts) ≡ term_raised ts i c u.factor
  term_found s c =
      opened_term
      ∙ ap (λ b. take i ts ++ cond b (term_unless_zero (get_or ts i d).leaf ((get_or ts i d).factor +ℤ u.factor) (drop (suc i) ts))
      (cond (is_before u.leaf (get_or ts i d).leaf) (u ∷ (get_or ts i d ∷ drop (suc i) ts)) (get_or ts i d ∷ add_term u (drop (suc i) ts)))) s
      ∙ ap (λ t. take i ts ++ term_unless_zero t.leaf (t.factor +ℤ u.factor) (drop (suc i) ts)) (any_default ts i d c inside)

  past_same : same_leaf u.leaf (get_or ts i d).leaf ≡ false → take i ts ++ add_term u (drop i ts)
      ≡ take i ts ++ cond (is_before u.leaf (get_or ts i d).leaf) (u ∷ (get_or ts i d ∷ drop (suc i) ts)) (get_or ts i d ∷ add_term u (drop (suc i) ts))
  past_same s =
      opened_term
      ∙ ap (λ b. take i ts ++ cond b (term_unless_zero (get_or ts i d).leaf ((get_or ts i d).factor +ℤ u.factor) (drop (suc i) ts))
      (cond (is_before u.leaf (get_or ts i d).leaf) (u ∷ (get_or ts i d ∷ drop (suc i) ts)) (get_or ts i d ∷ add_term u (drop (suc i) ts)))) s

  pub term_before : same_leaf u.leaf (get_or ts i d).leaf ≡ false → is_before u.leaf (get_or ts i d).leaf ≡ true
      → take i ts ++ add_term u (drop i ts) ≡ insert ts i u
  term_before s b =
      past_same s
      ∙ ap (λ v. take i ts ++ cond v (u ∷ (get_or ts i d ∷ drop (suc i) ts)) (get_or ts i d ∷ add_term u (drop (suc i) ts))) b
      ∙ ap (λ qs. take i ts ++ (u ∷ qs)) (sym (drop-cons ts i d inside))

  pub term_on : same_leaf u.leaf (get_or ts i d).leaf ≡ false → is_before u.leaf (get_or ts i d).leaf ≡ false
      → take i ts ++ add_term u (drop i ts) ≡ take (i + 1) ts ++ add_term u (drop (i + 1) ts)
  term_on s b =
      past_same s
      ∙ ap (λ v. take i ts ++ cond v (u ∷ (get_or ts i d ∷ drop (suc i) ts)) (get_or ts i d ∷ add_term u (drop (suc i) ts))) b
      ∙ sym (append_assoc (take i ts) (get_or ts i d ∷ []) (add_term u (drop (suc i) ts)))
      ∙ ap (λ qs. qs ++ add_term u (drop (suc i) ts)) (sym (take-suc ts i d inside))
      ∙ ap (λ n. take n ts ++ add_term u (drop n ts)) (sym (add-one i))

pub term_last : (u : Term) (ts : List Term) (i : ℕ) → i ≡ length ts → take i ts ++ add_term u (drop i ts) ≡ insert ts (length ts) u
unfolding add_term
term_last u ts i e =
    ap (λ n. take n ts ++ add_term u (drop n ts)) e ∙ ap (λ qs. take (length ts) ts ++ add_term u qs) (drop_all (length ts) ts (omega arith))
    ∙ ap (λ qs. take (length ts) ts ++ (u ∷ qs)) (sym (drop_all (length ts) ts (omega arith)))

-- ---- a factor is within the size
pub term_within : (ts : List Term) (i : ℕ) (d : Term) → i < length ts → unsigned_abs (get_or ts i d).factor ≤ terms_size ts
unfolding terms_size
term_within [] i d h = absurd (omega arith)
term_within (t ∷ ts) zero d h = omega arith
term_within (t ∷ ts) (suc i) d h = let r = term_within ts i d (omega arith) in omega arith

pub opaque_within : (os : List Opaque) (i : ℕ) (d : Opaque) → i < length os → unsigned_abs (factor_of (get_or os i d)) ≤ opaques_size os
unfolding opaques_size
opaque_within [] i d h = absurd (omega arith)
opaque_within (o ∷ os) zero d h = omega arith
opaque_within (o ∷ os) (suc i) d h = let r = opaque_within os i d (omega arith) in omega arith
