-- One term or opaque term more of a multiple.
use Rattle.std.proofs.Common.{◌≡◌, ℕ, ◌+◌, ◌*◌, ◌^◌, ◌≤◌, List, [], ◌∷◌, ◌++◌, Bool, true, false, cond, refl, sym, ap, ◌∙◌, append_assoc, append-nil, arith}
use Rattle.std.specs.Prelude.{ℤ, pos, ◌*ℤ◌, unsigned_abs}
use Rattle.std.specs.Ordering.{int_eq}
use Rattle.av_affine.specs.declared.expression.Leaf.{Leaf}
use Rattle.av_affine.specs.declared.linear.Term.{Term}
use Rattle.av_affine.specs.declared.linear.Opaque.{Opaque, Opaque', out-Opaque}
use Rattle.av_affine.specs.Forms.{scale_terms, scale_opaques, term_unless_zero, opaque_unless_zero, factor_of}
use Rattle.av_affine.specs.Sizes.{terms_size, opaques_size}
use Rattle.av_affine.proofs.Placed.{factor_out}

term_front : (leaf : Leaf) (f : ℤ) (ts : List Term) → term_unless_zero leaf f [] ++ ts ≡ term_unless_zero leaf f ts
term_front leaf f ts = by_test (int_eq f (pos 0))
  where
    by_test : (b : Bool) → cond b [] (record { leaf = leaf; factor = f } ∷ []) ++ ts ≡ cond b ts (record { leaf = leaf; factor = f } ∷ ts)
    by_test true = refl
    by_test false = refl

opaque_front : (o : Opaque) (f : ℤ) (os : List Opaque) → opaque_unless_zero o f [] ++ os ≡ opaque_unless_zero o f os
opaque_front (Opaque' k l d g) f os = by_test (int_eq f (pos 0))
  where
    by_test : (b : Bool) → cond b [] (Opaque' k l d f ∷ []) ++ os ≡ cond b os (Opaque' k l d f ∷ os)
    by_test true = refl
    by_test false = refl

pub all_scaled : {A : Type 0} (out left all : List A) → left ≡ [] → out ++ left ≡ all → out ≡ all
all_scaled out left all e h = sym (append-nil out) ∙ ap (λ us. out ++ us) (sym e) ∙ h

pub term_scaled : (k : ℤ) (t : Term) (rest all out new ts : List Term) (z w : ℤ) → all ≡ t ∷ rest → out ++ scale_terms k all ≡ ts
    → z ≡ t.factor *ℤ k → w ≡ z → new ≡ out ++ term_unless_zero t.leaf w [] → new ++ scale_terms k rest ≡ ts
unfolding scale_terms
term_scaled k t rest all out new ts z w is split e s n =
    ap (λ us. us ++ scale_terms k rest) n ∙ append_assoc out (term_unless_zero t.leaf w []) (scale_terms k rest)
    ∙ ap (λ us. out ++ us) (term_front t.leaf w (scale_terms k rest))
    ∙ ap (λ v. out ++ term_unless_zero t.leaf v (scale_terms k rest)) (s ∙ e) ∙ ap (λ us. out ++ scale_terms k us) (sym is) ∙ split

pub opaque_scaled : (k : ℤ) (o : Opaque) (rest all out new os : List Opaque) (z w : ℤ) → all ≡ o ∷ rest → out ++ scale_opaques k all ≡ os
    → z ≡ (out-Opaque o).factor *ℤ k → w ≡ z → new ≡ out ++ opaque_unless_zero o w [] → new ++ scale_opaques k rest ≡ os
unfolding scale_opaques
opaque_scaled k o rest all out new os z w is split e s n =
    ap (λ us. us ++ scale_opaques k rest) n ∙ append_assoc out (opaque_unless_zero o w []) (scale_opaques k rest)
    ∙ ap (λ us. out ++ us) (opaque_front o w (scale_opaques k rest))
    ∙ ap (λ v. out ++ opaque_unless_zero o v (scale_opaques k rest)) (s ∙ e ∙ ap (λ v. v *ℤ k) (factor_out o)) ∙ ap (λ us. out ++ scale_opaques k us) (sym is) ∙ split

split_size : (a b k : ℕ) → (a + b) * k ≤ 2 ^ 110 → (a * k ≤ 2 ^ 110) × (b * k ≤ 2 ^ 110)
split_size a b k h = (omega arith, omega arith)

pub term_room : (k : ℤ) (t : Term) (rest all : List Term) → all ≡ t ∷ rest → terms_size all * unsigned_abs k ≤ 2 ^ 110 → unsigned_abs t.factor * unsigned_abs k ≤ 2 ^ 110
unfolding terms_size
term_room k t rest all is h = (split_size (unsigned_abs t.factor) (terms_size rest) (unsigned_abs k) (rw is at h)).0

pub term_less : (k : ℤ) (t : Term) (rest all : List Term) → all ≡ t ∷ rest → terms_size all * unsigned_abs k ≤ 2 ^ 110 → terms_size rest * unsigned_abs k ≤ 2 ^ 110
unfolding terms_size
term_less k t rest all is h = (split_size (unsigned_abs t.factor) (terms_size rest) (unsigned_abs k) (rw is at h)).1

pub opaque_room : (k : ℤ) (o : Opaque) (rest all : List Opaque) → all ≡ o ∷ rest → opaques_size all * unsigned_abs k ≤ 2 ^ 110
    → unsigned_abs (out-Opaque o).factor * unsigned_abs k ≤ 2 ^ 110
unfolding opaques_size
opaque_room k o rest all is h = rw (factor_out o) ((split_size (unsigned_abs (factor_of o)) (opaques_size rest) (unsigned_abs k) (rw is at h)).0)

pub opaque_less : (k : ℤ) (o : Opaque) (rest all : List Opaque) → all ≡ o ∷ rest → opaques_size all * unsigned_abs k ≤ 2 ^ 110 → opaques_size rest * unsigned_abs k ≤ 2 ^ 110
unfolding opaques_size
opaque_less k o rest all is h = (split_size (unsigned_abs (factor_of o)) (opaques_size rest) (unsigned_abs k) (rw is at h)).1
