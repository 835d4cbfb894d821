-- A list taken apart at a place.
use Rattle.std.proofs.Common.{◌≡◌, ℕ, zero, suc, ◌+◌, ◌<◌, ◌≤◌, List, [], ◌∷◌, ◌++◌, length, get_or, take, drop, insert, remove, Bool, true, false, cond, refl, sym, ap, ◌∙◌, arith, append_assoc, add-one, ◌+ℤ◌}
use Rattle.std.proofs.Math.Seq.{drop-cons, take-suc}
use Rattle.std.proofs.lemmas.List.{take_all, drop_all}
use Rattle.std.specs.Prelude.{ℤ, pos, Result, Ok, Err, OnOk}
use Rattle.std.specs.Ordering.{int_eq}
use Rattle.std.proofs.lemmas.Bool.Decides.{Decides-int_eq}
use Rattle.av_affine.specs.declared.linear.Opaque.{Opaque, Opaque', out-Opaque, roll-Opaque, rolls-Opaque', outs-Opaque'}
use Rattle.av_affine.proofs.Pairwise.{any_default}
use Rattle.av_affine.specs.Forms.{add_opaque, same_division, opaque_unless_zero, factor_of}
use Rattle.av_affine.specs.Places.{opaque_raised}

-- what was taken out at a place and put back changed
pub put_back : {A : Type 0} (xs : List A) (i : ℕ) (y : A) → i < length xs → insert (remove xs i) i y ≡ take i xs ++ (y ∷ drop (suc i) xs)
put_back [] i y h = absurd (omega arith)
put_back (x ∷ xs) zero y h = refl
put_back (x ∷ xs) (suc i) y h = ap (λ ys. x ∷ ys) (put_back xs i y (omega arith))

-- an opaque term goes on to the next place
pub opaque_on : (o : Opaque) (ps : List Opaque) (i : ℕ) (d : Opaque) → i < length ps → same_division o (get_or ps i d) ≡ false
    → take i ps ++ add_opaque o (drop i ps) ≡ take (i + 1) ps ++ add_opaque o (drop (i + 1) ps)
unfolding add_opaque
opaque_on o ps i d h f =
    ap (λ qs. take i ps ++ add_opaque o qs) (drop-cons ps i d h)
    ∙ ap (λ b. take i ps ++ cond b (opaque_unless_zero (get_or ps i d) (factor_of (get_or ps i d) +ℤ factor_of o) (drop (suc i) ps)) (get_or ps i d ∷ add_opaque o (drop (suc i) ps))) f
    ∙ sym (append_assoc (take i ps) (get_or ps i d ∷ []) (add_opaque o (drop (suc i) ps)))
    ∙ ap (λ qs. qs ++ add_opaque o (drop (suc i) ps)) (sym (take-suc ps i d h))
    ∙ ap (λ n. take n ps ++ add_opaque o (drop n ps)) (sym (add-one i))

pub opaque_found : (o : Opaque) (ps : List Opaque) (i : ℕ) (d : Opaque) → i < length ps → same_division o (get_or ps i d) ≡ true
    → take i ps ++ add_opaque o (drop i ps) ≡ opaque_raised ps i d (factor_of o)
unfolding add_opaque
opaque_found o ps i d h f =
    ap (λ qs. take i ps ++ add_opaque o qs) (drop-cons ps i d h)
    ∙ ap (λ b. take i ps ++ cond b (opaque_unless_zero (get_or ps i d) (factor_of (get_or ps i d) +ℤ factor_of o) (drop (suc i) ps)) (get_or ps i d ∷ add_opaque o (drop (suc i) ps))) f

pub opaque_last : (o : Opaque) (ps : List Opaque) (i : ℕ) → length ps ≤ i → take i ps ++ add_opaque o (drop i ps) ≡ ps ++ o ∷ []
unfolding add_opaque
opaque_last o ps i h =
    ap (λ qs. qs ++ add_opaque o (drop i ps)) (take_all i ps h) ∙ ap (λ qs. ps ++ add_opaque o qs) (drop_all i ps h)

-- ---- an opaque term whose factor changes
pub int_eq-false : (x y : ℤ) → (x ≡ y → ⊥) → int_eq x y ≡ false
int_eq-false x y h = bool_false (int_eq x y) (λ e. h ((Decides-int_eq x y).0 e))
  where
    bool_false : (b : Bool) → (b ≡ true → ⊥) → b ≡ false
    bool_false true k = absurd (k refl)
    bool_false false k = refl

pub int_eq-refl : (x y : ℤ) → x ≡ y → int_eq x y ≡ true
int_eq-refl x y h = (Decides-int_eq x y).1 h

-- the changed term
abbrev pub with_numbers : Opaque → ℤ → ℤ → Opaque
with_numbers o w z = roll-Opaque (record { kind = (out-Opaque o).kind; inner = (out-Opaque o).inner; by = w; factor = z })

parts_same : (o : Opaque) (w z : ℤ) → w ≡ (out-Opaque o).by → (rest : List Opaque) → int_eq z (pos 0) ≡ false
    → with_numbers o w z ∷ rest ≡ opaque_unless_zero o z rest
parts_same (Opaque' k l b h) w z e rest n =
    ap (λ p. p ∷ rest)
    (rolls-Opaque' (record { kind = (out-Opaque (Opaque' k l b h)).kind; inner = (out-Opaque (Opaque' k l b h)).inner; by = w; factor = z })
    ∙ ap (λ u. Opaque' u.kind u.inner w z) (outs-Opaque' k l b h) ∙ ap (λ v. Opaque' k l v z) (e ∙ ap (λ u. u.by) (outs-Opaque' k l b h)))
    ∙ ap (λ c. cond c rest (Opaque' k l b z ∷ rest)) (sym n)

pub factor_out : (o : Opaque) → (out-Opaque o).factor ≡ factor_of o
factor_out (Opaque' k l b h) = ap (λ u. u.factor) (outs-Opaque' k l b h)

none_left : (o : Opaque) (z : ℤ) (rest : List Opaque) → int_eq z (pos 0) ≡ true → rest ≡ opaque_unless_zero o z rest
none_left (Opaque' k l b h) z rest n = ap (λ c. cond c rest (Opaque' k l b z ∷ rest)) (sym n)

module _ (os : List Opaque) (i : ℕ) (o : Opaque) (inside : i < length os) (is : o ≡ get_or os i o) (f g : ℤ) (sums : g ≡ (out-Opaque o).factor +ℤ f) where
  raised_here : (d : Opaque) → take i os ++ opaque_unless_zero o g (drop (suc i) os) ≡ opaque_raised os i d f
  raised_here d =
      ap (λ z. take i os ++ opaque_unless_zero o z (drop (suc i) os)) (sums ∙ ap (λ z. z +ℤ f) (factor_out o))
      ∙ ap (λ p. take i os ++ opaque_unless_zero p (factor_of p +ℤ f) (drop (suc i) os)) (is ∙ any_default os i o d inside)

  pub raised_back : (w z : ℤ) (ys zs : List Opaque) → ys ≡ remove os i → w ≡ (out-Opaque o).by → z ≡ g → (g ≡ pos 0 → ⊥)
      → zs ≡ insert ys i (with_numbers o w z) → (d : Opaque) → zs ≡ opaque_raised os i d f
  raised_back w z ys zs y e s n q d =
      q ∙ ap (λ us. insert us i (with_numbers o w z)) y ∙ put_back os i (with_numbers o w z) inside
      ∙ ap (λ us. take i os ++ us) (ap (λ v. with_numbers o w v ∷ drop (suc i) os) s ∙ parts_same o w g e (drop (suc i) os) (int_eq-false g (pos 0) n))
      ∙ raised_here d

  pub raised_away : (ys : List Opaque) → ys ≡ remove os i → g ≡ pos 0 → (d : Opaque) → ys ≡ opaque_raised os i d f
  raised_away ys y n d =
      y ∙ ap (λ us. take i os ++ us) (none_left o g (drop (suc i) os) (int_eq-refl g (pos 0) n)) ∙ raised_here d

-- a fact of a success, from another
pub on_ok : {A E P Q : Type 0} (r : Result A E) → (P → Q) → OnOk r P → OnOk r Q
on_ok (Ok x) h p = h p
on_ok (Err x) h p = p
