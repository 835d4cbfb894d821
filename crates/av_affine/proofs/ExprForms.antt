-- The form of an expression has its value.
use Rattle.std.proofs.Common.{◌≡◌, List, [], ◌∷◌, IsFalse, inl, inr, refl, sym, ap, ◌∙◌, arith}
use Rattle.std.specs.Prelude.{ℤ, pos, negsuc, neg_ℤ, ◌+ℤ◌, ◌-ℤ◌, ◌*ℤ◌}
use Rattle.std.proofs.lemmas.Int.{ints}
use lib.IntN.{*ℤ_comm}
use Rattle.av_affine.specs.declared.expression.Leaf.{Leaf}
use Rattle.av_affine.specs.declared.expression.Expr.{Expr, Param, Const, Neg', Add', Sub', Mul', Mod', Floor', Ceil', end_of-Expr, more_of-Expr}
use Rattle.av_affine.specs.declared.linear.DivKind.{DivKind}
use Rattle.av_affine.specs.declared.linear.DivKind.TheVariants.{Mod, Floor, Ceil}
use Rattle.av_affine.specs.declared.linear.Term.{Term}
use Rattle.av_affine.specs.declared.linear.Linear.{Row_of-Opaque, end_of-Opaque, more_of-Opaque, items-the_row-Opaque, items_hidden-the_row-Opaque-0, roll-Linear, rolls-Linear'}
use Rattle.av_affine.specs.declared.linear.Linear.TheBlock.{hidden-the_row-Opaque-0}
use Rattle.av_affine.specs.declared.linear.Opaque.{Opaque}
use Rattle.av_affine.specs.Values.{value_of}
use Rattle.av_affine.specs.Limits.{has_parameter, IsAffine, IsDivisor}
use Rattle.av_affine.specs.Forms.{divide, terms_value, form_value, opaque_value, row_value, opaques_value, add_terms, add_opaques, scale_terms, scale_opaques, Parts, constant_parts, joined, scaled, product_by, division_of, divided, parts_of, linear_form, parts_value, FormValueLaw}
use Rattle.av_affine.proofs.Integers.{sum-mul}
use Rattle.av_affine.proofs.FormValues.{add_terms-value, scale_terms-value, add_opaques-value, scale_opaques-value}
use Rattle.av_affine.proofs.Bounded.{or_false}

-- ---- a form and its parts
row-items : (at : Leaf → ℤ) {n : _} (row : Row_of-Opaque n) → row_value at row ≡ opaques_value at (items-the_row-Opaque n row)
unfolding row_value opaques_value
row-items at end_of-Opaque = refl
row-items at (more_of-Opaque o rest) = ap (λ x. opaque_value at o +ℤ x) (row-items at rest)

pub roll-value : (at : Leaf → ℤ) (p : Parts) → form_value at (roll-Linear p) ≡ parts_value at p
unfolding form_value
roll-value at p =
    ap (form_value at) (rolls-Linear' p)
    ∙ ap (λ x. terms_value at p.terms +ℤ x +ℤ p.constant)
    (row-items at (hidden-the_row-Opaque-0 p.opaque) ∙ ap (opaques_value at) (items_hidden-the_row-Opaque-0 p.opaque))

-- ---- numbers
joined_sums : (a b c x y z : ℤ) → (a +ℤ x) +ℤ (b +ℤ y) +ℤ (c +ℤ z) ≡ (a +ℤ b +ℤ c) +ℤ (x +ℤ y +ℤ z)
joined_sums a b c x y z = omega (arith, ints)

by_minus_one : (x : ℤ) → x *ℤ negsuc 0 ≡ neg_ℤ x
by_minus_one x = omega (arith, ints)

less : (x y : ℤ) → x +ℤ y *ℤ negsuc 0 ≡ x -ℤ y
less x y = omega (arith, ints)

only_constant : (z : ℤ) → pos 0 +ℤ pos 0 +ℤ z ≡ z
only_constant z = omega (arith, ints)

only_one : (x : ℤ) → (x *ℤ pos 1 +ℤ pos 0) +ℤ pos 0 +ℤ pos 0 ≡ x
only_one x = omega (arith, ints)

only_opaque : (x : ℤ) → pos 0 +ℤ (x *ℤ pos 1 +ℤ pos 0) +ℤ pos 0 ≡ x
only_opaque x = omega (arith, ints)

-- ---- sums, multiples and divisions
pub joined-value : (at : Leaf → ℤ) (p q : Parts) → parts_value at (joined p q) ≡ parts_value at p +ℤ parts_value at q
joined-value at p q =
    ap (λ x. x +ℤ opaques_value at (add_opaques p.opaque q.opaque) +ℤ (p.constant +ℤ q.constant)) (add_terms-value at p.terms q.terms)
    ∙ ap (λ x. (terms_value at p.terms +ℤ terms_value at q.terms) +ℤ x +ℤ (p.constant +ℤ q.constant)) (add_opaques-value at p.opaque q.opaque)
    ∙ joined_sums (terms_value at p.terms) (opaques_value at p.opaque) p.constant (terms_value at q.terms) (opaques_value at q.opaque) q.constant

pub scaled-value : (at : Leaf → ℤ) (k : ℤ) (p : Parts) → parts_value at (scaled k p) ≡ parts_value at p *ℤ k
scaled-value at k p =
    ap (λ x. x +ℤ opaques_value at (scale_opaques k p.opaque) +ℤ p.constant *ℤ k) (scale_terms-value at k p.terms)
    ∙ ap (λ x. terms_value at p.terms *ℤ k +ℤ x +ℤ p.constant *ℤ k) (scale_opaques-value at k p.opaque)
    ∙ ap (λ x. x +ℤ p.constant *ℤ k) (sym (sum-mul (terms_value at p.terms) (opaques_value at p.opaque) k))
    ∙ sym (sum-mul (terms_value at p.terms +ℤ opaques_value at p.opaque) p.constant k)

constant-value : (at : Leaf → ℤ) (z : ℤ) → parts_value at (constant_parts z) ≡ z
unfolding terms_value opaques_value
constant-value at z = only_constant z

-- a constant times a form
times_form : (at : Leaf → ℤ) (x : ℤ) (ts : List Term) (os : List Opaque) (q : Parts) → ts ≡ q.terms → os ≡ q.opaque
    → parts_value at (product_by ts os (constant_parts x) q) ≡ x *ℤ parts_value at q
unfolding terms_value opaques_value
times_form at x [] [] q e f =
    scaled-value at q.constant (constant_parts x) ∙ ap (λ y. y *ℤ q.constant) (constant-value at x)
    ∙ ap (λ y. x *ℤ y) (sym (ap (λ us. terms_value at us +ℤ opaques_value at q.opaque +ℤ q.constant) (sym e)
    ∙ ap (λ ps. pos 0 +ℤ opaques_value at ps +ℤ q.constant) (sym f) ∙ only_constant q.constant))
times_form at x (t ∷ ts) os q e f = scaled-value at x q ∙ *ℤ_comm (parts_value at q) x
times_form at x [] (o ∷ os) q e f = scaled-value at x q ∙ *ℤ_comm (parts_value at q) x

division-value : (at : Leaf → ℤ) (ts : List Term) (os : List Opaque) (kind : DivKind) (p : Parts) (d : ℤ) → ts ≡ p.terms → os ≡ p.opaque
    → parts_value at (division_of ts os kind p d) ≡ divide kind (parts_value at p) d
unfolding terms_value opaques_value opaque_value
division-value at [] [] kind p d e f =
    constant-value at (divide kind p.constant d)
    ∙ ap (λ y. divide kind y d) (sym (ap (λ us. terms_value at us +ℤ opaques_value at p.opaque +ℤ p.constant) (sym e)
    ∙ ap (λ ps. pos 0 +ℤ opaques_value at ps +ℤ p.constant) (sym f) ∙ only_constant p.constant))
division-value at (t ∷ ts) os kind p d e f =
    only_opaque (divide kind (form_value at (roll-Linear p)) d) ∙ ap (λ y. divide kind y d) (roll-value at p)
division-value at [] (o ∷ os) kind p d e f =
    only_opaque (divide kind (form_value at (roll-Linear p)) d) ∙ ap (λ y. divide kind y d) (roll-value at p)

-- ---- the form of an expression without parameters is a constant
pub constant-parts : (at : Leaf → ℤ) (e : Expr) → IsFalse (has_parameter e) → parts_of e ≡ constant_parts (value_of at e)
unfolding has_parameter value_of parts_of scale_terms scale_opaques add_terms add_opaques
constant-parts at (Param leaf) h = absurd (grind arith)
constant-parts at (Const z) h = refl
constant-parts at (Neg' s (more_of-Expr a end_of-Expr)) h =
    ap (scaled (negsuc 0)) (constant-parts at a h) ∙ ap constant_parts (by_minus_one (value_of at a))
constant-parts at (Add' s (more_of-Expr a end_of-Expr) t (more_of-Expr b end_of-Expr)) h =
    let p = or_false (has_parameter a) (has_parameter b) h in
    ap (λ q. joined q (parts_of b)) (constant-parts at a p.0) ∙ ap (joined (constant_parts (value_of at a))) (constant-parts at b p.1)
constant-parts at (Sub' s (more_of-Expr a end_of-Expr) t (more_of-Expr b end_of-Expr)) h =
    let p = or_false (has_parameter a) (has_parameter b) h in
    ap (λ q. joined q (scaled (negsuc 0) (parts_of b))) (constant-parts at a p.0)
    ∙ ap (λ q. joined (constant_parts (value_of at a)) (scaled (negsuc 0) q)) (constant-parts at b p.1)
    ∙ ap constant_parts (less (value_of at a) (value_of at b))
constant-parts at (Mul' s (more_of-Expr a end_of-Expr) t (more_of-Expr b end_of-Expr)) h =
    let p = or_false (has_parameter a) (has_parameter b) h in
    ap (λ q. product_by q.terms q.opaque (parts_of a) q) (constant-parts at b p.1)
    ∙ ap (scaled (value_of at b)) (constant-parts at a p.0)
constant-parts at (Mod' s (more_of-Expr a end_of-Expr) t (more_of-Expr b end_of-Expr)) h =
    let p = or_false (has_parameter a) (has_parameter b) h in
    ap (λ q. divided Mod q (parts_of b)) (constant-parts at a p.0) ∙ ap (divided Mod (constant_parts (value_of at a))) (constant-parts at b p.1)
constant-parts at (Floor' s (more_of-Expr a end_of-Expr) t (more_of-Expr b end_of-Expr)) h =
    let p = or_false (has_parameter a) (has_parameter b) h in
    ap (λ q. divided Floor q (parts_of b)) (constant-parts at a p.0) ∙ ap (divided Floor (constant_parts (value_of at a))) (constant-parts at b p.1)
constant-parts at (Ceil' s (more_of-Expr a end_of-Expr) t (more_of-Expr b end_of-Expr)) h =
    let p = or_false (has_parameter a) (has_parameter b) h in
    ap (λ q. divided Ceil q (parts_of b)) (constant-parts at a p.0) ∙ ap (divided Ceil (constant_parts (value_of at a))) (constant-parts at b p.1)

divided-value : (at : Leaf → ℤ) (kind : DivKind) (p : Parts) (b : Expr) (x : ℤ) → IsDivisor b → parts_value at p ≡ x
    → parts_value at (divided kind p (parts_of b)) ≡ divide kind x (value_of at b)
divided-value at kind p b x d e =
    ap (λ q. parts_value at (divided kind p q)) (constant-parts at b d.0)
    ∙ division-value at p.terms p.opaque kind p (value_of at b) refl refl ∙ ap (λ y. divide kind y (value_of at b)) e

pub parts-value : (at : Leaf → ℤ) (e : Expr) → IsAffine e → parts_value at (parts_of e) ≡ value_of at e
unfolding value_of parts_of IsAffine terms_value opaques_value
parts-value at (Param leaf) h = only_one (at leaf)
parts-value at (Const z) h = only_constant z
parts-value at (Neg' s (more_of-Expr a end_of-Expr)) h =
    scaled-value at (negsuc 0) (parts_of a) ∙ by_minus_one (parts_value at (parts_of a)) ∙ ap neg_ℤ (parts-value at a h)
parts-value at (Add' s (more_of-Expr a end_of-Expr) t (more_of-Expr b end_of-Expr)) h =
    joined-value at (parts_of a) (parts_of b) ∙ ap (λ x. x +ℤ parts_value at (parts_of b)) (parts-value at a h.0)
    ∙ ap (λ x. value_of at a +ℤ x) (parts-value at b h.1)
parts-value at (Sub' s (more_of-Expr a end_of-Expr) t (more_of-Expr b end_of-Expr)) h =
    joined-value at (parts_of a) (scaled (negsuc 0) (parts_of b))
    ∙ ap (λ x. parts_value at (parts_of a) +ℤ x) (scaled-value at (negsuc 0) (parts_of b))
    ∙ ap (λ x. x +ℤ parts_value at (parts_of b) *ℤ negsuc 0) (parts-value at a h.0)
    ∙ ap (λ x. value_of at a +ℤ x *ℤ negsuc 0) (parts-value at b h.1)
    ∙ less (value_of at a) (value_of at b)
parts-value at (Mul' s (more_of-Expr a end_of-Expr) t (more_of-Expr b end_of-Expr)) h =
    elim h.2 as (λ w. parts_value at (product_by (parts_of b).terms (parts_of b).opaque (parts_of a) (parts_of b)) ≡ value_of at a *ℤ value_of at b) [
      | inl k ↦
          ap (λ q. parts_value at (product_by (parts_of b).terms (parts_of b).opaque q (parts_of b))) (constant-parts at a k)
          ∙ times_form at (value_of at a) (parts_of b).terms (parts_of b).opaque (parts_of b) refl refl
          ∙ ap (λ x. value_of at a *ℤ x) (parts-value at b h.1)
      | inr k ↦
          ap (λ q. parts_value at (product_by q.terms q.opaque (parts_of a) q)) (constant-parts at b k)
          ∙ scaled-value at (value_of at b) (parts_of a) ∙ ap (λ x. x *ℤ value_of at b) (parts-value at a h.0)
    ]
parts-value at (Mod' s (more_of-Expr a end_of-Expr) t (more_of-Expr b end_of-Expr)) h =
    divided-value at Mod (parts_of a) b (value_of at a) h.2 (parts-value at a h.0)
parts-value at (Floor' s (more_of-Expr a end_of-Expr) t (more_of-Expr b end_of-Expr)) h =
    divided-value at Floor (parts_of a) b (value_of at a) h.2 (parts-value at a h.0)
parts-value at (Ceil' s (more_of-Expr a end_of-Expr) t (more_of-Expr b end_of-Expr)) h =
    divided-value at Ceil (parts_of a) b (value_of at a) h.2 (parts-value at a h.0)

pub form-value-law : FormValueLaw
unfolding linear_form
form-value-law e h at = roll-value at (parts_of e) ∙ parts-value at e h
