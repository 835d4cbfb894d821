-- The value of a linear form is the value of its expression.
use Rattle.std.proofs.Common.{◌≡◌, List, [], ◌∷◌, Bool, true, false, ◌&&◌, refl, sym, ap, ◌∙◌, arith, cond}
use Rattle.std.specs.Prelude.{ℤ, pos, ◌+ℤ◌, ◌*ℤ◌}
use Rattle.std.specs.Ordering.{int_eq}
use Rattle.std.proofs.lemmas.Bool.Decides.{Decides-int_eq, nat_tests}
use Rattle.std.proofs.lemmas.Int.{ints}
use lib.IntN.{*ℤ-zero}
use Rattle.av_affine.specs.declared.expression.Leaf.{Leaf}
use Rattle.av_affine.specs.declared.expression.Leaf.TheVariants.{Dim, Sym}
use Rattle.av_affine.specs.declared.linear.DivKind.{DivKind}
use Rattle.av_affine.specs.declared.linear.DivKind.TheVariants.{Mod, Floor, Ceil}
use Rattle.av_affine.specs.declared.linear.Term.{Term}
use Rattle.av_affine.specs.declared.linear.Linear.{Linear, Linear', Row_of-Opaque, end_of-Opaque, more_of-Opaque}
use Rattle.av_affine.specs.declared.linear.Opaque.{Opaque, Opaque'}
use Rattle.av_affine.specs.Forms.{divide, terms_value, form_value, opaque_value, row_value, opaques_value, same_leaf, same_kind, same_term, all_same, same_terms, same_form, same_opaque, same_row, same_division, is_before, term_unless_zero, opaque_unless_zero, factor_of, add_term, add_opaque, add_terms, add_opaques, scale_terms, scale_opaques}
use Rattle.av_affine.proofs.Pairwise.{both_true}
use Rattle.av_affine.proofs.Integers.{mul-sum, sum-mul, mul-mul}

-- ---- tests
pub int_eq-true : (x y : ℤ) → int_eq x y ≡ true → x ≡ y
int_eq-true x y h = (Decides-int_eq x y).0 h

same_leaf-true : (x y : Leaf) → same_leaf x y ≡ true → x ≡ y
same_leaf-true (Dim j) (Dim k) h = ap Dim (grind (arith, nat_tests))
same_leaf-true (Dim j) (Sym k) h = absurd (cc)
same_leaf-true (Sym j) (Dim k) h = absurd (cc)
same_leaf-true (Sym j) (Sym k) h = ap Sym (grind (arith, nat_tests))

same_kind-true : (x y : DivKind) → same_kind x y ≡ true → x ≡ y
same_kind-true Mod Mod h = refl
same_kind-true Mod Floor h = absurd (cc)
same_kind-true Mod Ceil h = absurd (cc)
same_kind-true Floor Mod h = absurd (cc)
same_kind-true Floor Floor h = refl
same_kind-true Floor Ceil h = absurd (cc)
same_kind-true Ceil Mod h = absurd (cc)
same_kind-true Ceil Floor h = absurd (cc)
same_kind-true Ceil Ceil h = refl

-- either side of a choice, by its test
pub choose : {A : Type 0} (P : A → Type 0) (b : Bool) (x y : A) → (b ≡ true → P x) → (b ≡ false → P y) → P (cond b x y)
choose P true x y h k = h refl
choose P false x y h k = k refl

-- ---- equal forms have equal values
same_terms-value : (at : Leaf → ℤ) (ts us : List Term) → same_terms ts us ≡ true → terms_value at ts ≡ terms_value at us
unfolding all_same terms_value
same_terms-value at [] [] h = refl
same_terms-value at [] (u ∷ us) h = absurd (cc)
same_terms-value at (t ∷ ts) [] h = absurd (cc)
same_terms-value at (t ∷ ts) (u ∷ us) h =
    let q = both_true (same_leaf t.leaf u.leaf && int_eq t.factor u.factor) (all_same same_term ts us) h in
    let p = both_true (same_leaf t.leaf u.leaf) (int_eq t.factor u.factor) q.0 in
    let l = same_leaf-true t.leaf u.leaf p.0 in
    let f = int_eq-true t.factor u.factor p.1 in
    ap (λ x. at x *ℤ t.factor +ℤ terms_value at ts) l ∙ ap (λ x. at u.leaf *ℤ x +ℤ terms_value at ts) f
    ∙ ap (λ x. at u.leaf *ℤ u.factor +ℤ x) (same_terms-value at ts us q.1)

mutual
  unfolding same_form form_value same_row same_opaque row_value opaque_value

  same_form-value : (at : Leaf → ℤ) (l m : Linear) → same_form l m ≡ true → form_value at l ≡ form_value at m
  same_form-value at (Linear' ts s row c) (Linear' us t other d) h =
      let p = both_true (same_terms ts us) (same_row row other && int_eq c d) h in
      let q = both_true (same_row row other) (int_eq c d) p.1 in
      ap (λ x. x +ℤ row_value at row +ℤ c) (same_terms-value at ts us p.0)
      ∙ ap (λ x. terms_value at us +ℤ x +ℤ c) (same_row-value at row other q.0)
      ∙ ap (λ x. terms_value at us +ℤ row_value at other +ℤ x) (int_eq-true c d q.1)

  same_opaque-value : (at : Leaf → ℤ) (o p : Opaque) → same_opaque o p ≡ true → opaque_value at o ≡ opaque_value at p
  same_opaque-value at (Opaque' k l d f) (Opaque' j m e g) h =
      let r = both_true (int_eq f g) (same_kind k j && (int_eq d e && same_form l m)) h in
      let p = both_true (same_kind k j) (int_eq d e && same_form l m) r.1 in
      let q = both_true (int_eq d e) (same_form l m) p.1 in
      ap (λ x. divide x (form_value at l) d *ℤ f) (same_kind-true k j p.0)
      ∙ ap (λ x. divide j x d *ℤ f) (same_form-value at l m q.1)
      ∙ ap (λ x. divide j (form_value at m) x *ℤ f) (int_eq-true d e q.0)
      ∙ ap (λ x. divide j (form_value at m) e *ℤ x) (int_eq-true f g r.0)

  same_row-value : (at : Leaf → ℤ) {m n : _} (row : Row_of-Opaque m) (other : Row_of-Opaque n) → same_row row other ≡ true → row_value at row ≡ row_value at other
  same_row-value at end_of-Opaque end_of-Opaque h = refl
  same_row-value at end_of-Opaque (more_of-Opaque p others) h = absurd (cc)
  same_row-value at (more_of-Opaque o rest) end_of-Opaque h = absurd (cc)
  same_row-value at (more_of-Opaque o rest) (more_of-Opaque p others) h =
      let q = both_true (same_opaque o p) (same_row rest others) h in
      ap (λ x. x +ℤ row_value at rest) (same_opaque-value at o p q.0)
      ∙ ap (λ x. opaque_value at p +ℤ x) (same_row-value at rest others q.1)

-- ---- sums and multiples
terms_unless_zero-value : (at : Leaf → ℤ) (leaf : Leaf) (f : ℤ) (ts : List Term) → terms_value at (term_unless_zero leaf f ts) ≡ at leaf *ℤ f +ℤ terms_value at ts
unfolding terms_value
terms_unless_zero-value at leaf f ts =
    choose (λ us. terms_value at us ≡ at leaf *ℤ f +ℤ terms_value at ts) (int_eq f (pos 0)) ts (record { leaf = leaf; factor = f } ∷ ts)
    (λ h. let z : at leaf *ℤ f ≡ pos 0 = ap (λ x. at leaf *ℤ x) (int_eq-true f (pos 0) h) ∙ *ℤ-zero (at leaf) in
    sym (ap (λ x. x +ℤ terms_value at ts) z ∙ zero_sum (terms_value at ts)))
    (λ h. refl)
  where
    zero_sum : (x : ℤ) → pos 0 +ℤ x ≡ x
    zero_sum x = omega (arith, ints)

-- a sum whose parts change places
swapped : (a b c : ℤ) → a +ℤ (b +ℤ c) ≡ b +ℤ (a +ℤ c)
swapped a b c = omega (arith, ints)

regrouped : (a b c : ℤ) → (a +ℤ b) +ℤ c ≡ b +ℤ (a +ℤ c)
regrouped a b c = omega (arith, ints)

turned : (a b c : ℤ) → (a +ℤ b) +ℤ c ≡ a +ℤ (b +ℤ c)
turned a b c = omega (arith, ints)

add_term-value : (at : Leaf → ℤ) (u : Term) (ts : List Term) → terms_value at (add_term u ts) ≡ at u.leaf *ℤ u.factor +ℤ terms_value at ts
unfolding terms_value add_term
add_term-value at u [] = refl
add_term-value at u (t ∷ ts) =
    choose (λ us. terms_value at us ≡ at u.leaf *ℤ u.factor +ℤ (at t.leaf *ℤ t.factor +ℤ terms_value at ts)) (same_leaf u.leaf t.leaf)
    (term_unless_zero t.leaf (t.factor +ℤ u.factor) ts) (cond (is_before u.leaf t.leaf) (u ∷ (t ∷ ts)) (t ∷ add_term u ts))
    (λ h.
    terms_unless_zero-value at t.leaf (t.factor +ℤ u.factor) ts
    ∙ ap (λ x. x +ℤ terms_value at ts) (mul-sum (at t.leaf) t.factor u.factor)
    ∙ regrouped (at t.leaf *ℤ t.factor) (at t.leaf *ℤ u.factor) (terms_value at ts)
    ∙ ap (λ x. at x *ℤ u.factor +ℤ (at t.leaf *ℤ t.factor +ℤ terms_value at ts)) (sym (same_leaf-true u.leaf t.leaf h)))
    (λ h.
    choose (λ us. terms_value at us ≡ at u.leaf *ℤ u.factor +ℤ (at t.leaf *ℤ t.factor +ℤ terms_value at ts)) (is_before u.leaf t.leaf)
    (u ∷ (t ∷ ts)) (t ∷ add_term u ts)
    (λ k. refl)
    (λ k.
    ap (λ x. at t.leaf *ℤ t.factor +ℤ x) (add_term-value at u ts)
    ∙ swapped (at t.leaf *ℤ t.factor) (at u.leaf *ℤ u.factor) (terms_value at ts)))

pub add_terms-value : (at : Leaf → ℤ) (ts us : List Term) → terms_value at (add_terms ts us) ≡ terms_value at ts +ℤ terms_value at us
unfolding terms_value add_terms
add_terms-value at ts [] = sum_zero (terms_value at ts)
  where
    sum_zero : (x : ℤ) → x ≡ x +ℤ pos 0
    sum_zero x = omega (arith, ints)
add_terms-value at ts (u ∷ us) =
    add_terms-value at (add_term u ts) us ∙ ap (λ x. x +ℤ terms_value at us) (add_term-value at u ts)
    ∙ regrouped (at u.leaf *ℤ u.factor) (terms_value at ts) (terms_value at us)

pub scale_terms-value : (at : Leaf → ℤ) (k : ℤ) (ts : List Term) → terms_value at (scale_terms k ts) ≡ terms_value at ts *ℤ k
unfolding terms_value scale_terms
scale_terms-value at k [] = zero_product k
  where
    zero_product : (x : ℤ) → pos 0 ≡ pos 0 *ℤ x
    zero_product x = omega (arith, ints)
scale_terms-value at k (t ∷ ts) =
    terms_unless_zero-value at t.leaf (t.factor *ℤ k) (scale_terms k ts)
    ∙ ap (λ x. at t.leaf *ℤ (t.factor *ℤ k) +ℤ x) (scale_terms-value at k ts)
    ∙ ap (λ x. x +ℤ terms_value at ts *ℤ k) (sym (mul-mul (at t.leaf) t.factor k))
    ∙ sym (sum-mul (at t.leaf *ℤ t.factor) (terms_value at ts) k)

-- what an opaque term is worth without its factor
worth : (Leaf → ℤ) → Opaque → ℤ
worth at (Opaque' k l d f) = divide k (form_value at l) d

worth-value : (at : Leaf → ℤ) (o : Opaque) → opaque_value at o ≡ worth at o *ℤ factor_of o
unfolding worth opaque_value
worth-value at (Opaque' k l d f) = refl

same_division-worth : (at : Leaf → ℤ) (o p : Opaque) → same_division o p ≡ true → worth at o ≡ worth at p
unfolding same_division worth
same_division-worth at (Opaque' k l d f) (Opaque' j m e g) h =
    let p = both_true (same_kind k j) (int_eq d e && same_form l m) h in
    let q = both_true (int_eq d e) (same_form l m) p.1 in
    ap (λ x. divide x (form_value at l) d) (same_kind-true k j p.0) ∙ ap (λ x. divide j x d) (same_form-value at l m q.1)
    ∙ ap (λ x. divide j (form_value at m) x) (int_eq-true d e q.0)

opaque_unless_zero-value : (at : Leaf → ℤ) (o : Opaque) (f : ℤ) (os : List Opaque) → opaques_value at (opaque_unless_zero o f os) ≡ worth at o *ℤ f +ℤ opaques_value at os
unfolding opaques_value opaque_value worth
opaque_unless_zero-value at (Opaque' k l d g) f os =
    choose (λ us. opaques_value at us ≡ divide k (form_value at l) d *ℤ f +ℤ opaques_value at os) (int_eq f (pos 0)) os (Opaque' k l d f ∷ os)
    (λ h. let z : divide k (form_value at l) d *ℤ f ≡ pos 0 = ap (λ x. divide k (form_value at l) d *ℤ x) (int_eq-true f (pos 0) h) ∙ *ℤ-zero (divide k (form_value at l) d) in
    sym (ap (λ x. x +ℤ opaques_value at os) z ∙ zero_sum (opaques_value at os)))
    (λ h. refl)
  where
    zero_sum : (x : ℤ) → pos 0 +ℤ x ≡ x
    zero_sum x = omega (arith, ints)

add_opaque-value : (at : Leaf → ℤ) (o : Opaque) (ps : List Opaque) → opaques_value at (add_opaque o ps) ≡ opaque_value at o +ℤ opaques_value at ps
unfolding opaques_value add_opaque
add_opaque-value at o [] = refl
add_opaque-value at o (p ∷ ps) =
    choose (λ us. opaques_value at us ≡ opaque_value at o +ℤ (opaque_value at p +ℤ opaques_value at ps)) (same_division o p)
    (opaque_unless_zero p (factor_of p +ℤ factor_of o) ps) (p ∷ add_opaque o ps)
    (λ h.
    opaque_unless_zero-value at p (factor_of p +ℤ factor_of o) ps
    ∙ ap (λ x. x +ℤ opaques_value at ps) (mul-sum (worth at p) (factor_of p) (factor_of o))
    ∙ regrouped (worth at p *ℤ factor_of p) (worth at p *ℤ factor_of o) (opaques_value at ps)
    ∙ ap (λ x. x *ℤ factor_of o +ℤ (worth at p *ℤ factor_of p +ℤ opaques_value at ps)) (sym (same_division-worth at o p h))
    ∙ ap (λ x. x +ℤ (worth at p *ℤ factor_of p +ℤ opaques_value at ps)) (sym (worth-value at o))
    ∙ ap (λ x. opaque_value at o +ℤ (x +ℤ opaques_value at ps)) (sym (worth-value at p)))
    (λ h.
    ap (λ x. opaque_value at p +ℤ x) (add_opaque-value at o ps)
    ∙ swapped (opaque_value at p) (opaque_value at o) (opaques_value at ps))

pub add_opaques-value : (at : Leaf → ℤ) (ps os : List Opaque) → opaques_value at (add_opaques ps os) ≡ opaques_value at ps +ℤ opaques_value at os
unfolding opaques_value add_opaques
add_opaques-value at ps [] = sum_zero (opaques_value at ps)
  where
    sum_zero : (x : ℤ) → x ≡ x +ℤ pos 0
    sum_zero x = omega (arith, ints)
add_opaques-value at ps (o ∷ os) =
    add_opaques-value at (add_opaque o ps) os ∙ ap (λ x. x +ℤ opaques_value at os) (add_opaque-value at o ps)
    ∙ regrouped (opaque_value at o) (opaques_value at ps) (opaques_value at os)

pub scale_opaques-value : (at : Leaf → ℤ) (k : ℤ) (os : List Opaque) → opaques_value at (scale_opaques k os) ≡ opaques_value at os *ℤ k
unfolding opaques_value scale_opaques
scale_opaques-value at k [] = zero_product k
  where
    zero_product : (x : ℤ) → pos 0 ≡ pos 0 *ℤ x
    zero_product x = omega (arith, ints)
scale_opaques-value at k (o ∷ os) =
    opaque_unless_zero-value at o (factor_of o *ℤ k) (scale_opaques k os)
    ∙ ap (λ x. worth at o *ℤ (factor_of o *ℤ k) +ℤ x) (scale_opaques-value at k os)
    ∙ ap (λ x. x +ℤ opaques_value at os *ℤ k) (sym (mul-mul (worth at o) (factor_of o) k))
    ∙ ap (λ x. x *ℤ k +ℤ opaques_value at os *ℤ k) (sym (worth-value at o))
    ∙ sym (sum-mul (opaque_value at o) (opaques_value at os) k)
