-- The form of an expression from the forms of its parts.
use Rattle.std.proofs.Common.{◌≡◌, ℕ, ◌*◌, ◌^◌, ◌≤◌, refl, sym, ap, ◌∙◌, arith}
use Rattle.std.specs.Prelude.{ℤ, pos, negsuc, [], ◌∷◌, unsigned_abs, Result, Ok, Err, IfOk}
use denote.Hole.Carrier.{hidden}
use mir.Syntax.{w128}
use mir.Val.{to_z, of_z}
use Rattle.av_affine.specs.declared.expression.Leaf.{Leaf}
use Rattle.av_affine.specs.declared.expression.Expr.{Expr}
use Rattle.av_affine.specs.declared.expression.Expr.TheVariants as expr
use Rattle.av_affine.specs.declared.expression.Expr.TheBlock.{shape-the_row-Expr-0, hidden-the_row-Expr-0}
use Rattle.av_affine.specs.declared.linear.DivKind.{DivKind}
use Rattle.av_affine.specs.declared.linear.DivKind.TheVariants.{Mod, Floor, Ceil}
use Rattle.av_affine.specs.declared.linear.Linear.{Linear, out-Linear, roll-Linear, out-roll-Linear}
use Rattle.av_affine.specs.Values.{leaves}
use Rattle.av_affine.specs.Limits.{IsDivisor, bound_of, constant_value}
use Rattle.av_affine.specs.Forms.{Parts, constant_parts, joined, scaled, product_by, division_of, divided, parts_of, linear_form}
use Rattle.av_affine.specs.Sizes.{parts_size}
use Rattle.av_affine.proofs.Variants.{IsSound}
use Rattle.av_affine.proofs.Found.{sound-bound}
use Rattle.av_affine.proofs.Bounded.{kept, mul-mono}
use Rattle.av_affine.proofs.ExprForms.{constant-parts}
use Rattle.av_affine.proofs.Sizes.{parts-size, scaled-size}

-- ---- the form at each variant

pub form-Param : (leaf : Leaf) → linear_form (expr.Param leaf) ≡ roll-Linear (record { terms = record { leaf = leaf; factor = pos 1 } ∷ []; opaque = []; constant = pos 0 })
unfolding linear_form parts_of shape-the_row-Expr-0 hidden-the_row-Expr-0 hidden
form-Param leaf = refl

pub form-Const : (z : ℤ) → linear_form (expr.Const z) ≡ roll-Linear (constant_parts z)
unfolding linear_form parts_of shape-the_row-Expr-0 hidden-the_row-Expr-0 hidden
form-Const z = refl

pub form-Neg : (a : Expr) → linear_form (expr.Neg a) ≡ roll-Linear (scaled (negsuc 0) (parts_of a))
unfolding linear_form parts_of shape-the_row-Expr-0 hidden-the_row-Expr-0 hidden
form-Neg a = refl

pub form-Add : (a : Expr) (b : Expr) → linear_form (expr.Add a b) ≡ roll-Linear (joined (parts_of a) (parts_of b))
unfolding linear_form parts_of shape-the_row-Expr-0 hidden-the_row-Expr-0 hidden
form-Add a b = refl

pub form-Sub : (a : Expr) (b : Expr) → linear_form (expr.Sub a b) ≡ roll-Linear (joined (parts_of a) (scaled (negsuc 0) (parts_of b)))
unfolding linear_form parts_of shape-the_row-Expr-0 hidden-the_row-Expr-0 hidden
form-Sub a b = refl

pub form-Mul : (a : Expr) (b : Expr) → linear_form (expr.Mul a b) ≡ roll-Linear (product_by (parts_of b).terms (parts_of b).opaque (parts_of a) (parts_of b))
unfolding linear_form parts_of shape-the_row-Expr-0 hidden-the_row-Expr-0 hidden
form-Mul a b = refl

pub form-Mod : (a : Expr) (b : Expr) → linear_form (expr.Mod a b) ≡ roll-Linear (divided Mod (parts_of a) (parts_of b))
unfolding linear_form parts_of shape-the_row-Expr-0 hidden-the_row-Expr-0 hidden
form-Mod a b = refl

pub form-Floor : (a : Expr) (b : Expr) → linear_form (expr.Floor a b) ≡ roll-Linear (divided Floor (parts_of a) (parts_of b))
unfolding linear_form parts_of shape-the_row-Expr-0 hidden-the_row-Expr-0 hidden
form-Floor a b = refl

pub form-Ceil : (a : Expr) (b : Expr) → linear_form (expr.Ceil a b) ≡ roll-Linear (divided Ceil (parts_of a) (parts_of b))
unfolding linear_form parts_of shape-the_row-Expr-0 hidden-the_row-Expr-0 hidden
form-Ceil a b = refl

-- ---- the parts of a form that was made
pub out_of : (l : Linear) (p : Parts) → l ≡ roll-Linear p → out-Linear l ≡ p
out_of l p h = ap out-Linear h ∙ out-roll-Linear p

pub out_form : (l : Linear) (a : Expr) → l ≡ linear_form a → out-Linear l ≡ parts_of a
unfolding linear_form
out_form l a h = out_of l (parts_of a) h

pub form_room : (l : Linear) (a : Expr) → l ≡ linear_form a → IsSound a → parts_size (out-Linear l) ≤ bound_of a
form_room l a h s = omega (arith, ap parts_size (out_form l a h), parts-size a s.0 s.1)

pub form_limit : (l : Linear) (a : Expr) → l ≡ linear_form a → IsSound a → parts_size (out-Linear l) ≤ 2 ^ 110
form_limit l a h s = omega (arith, form_room l a h s, sound-bound a s)

times_one : (n : ℕ) → n * unsigned_abs (negsuc 0) ≡ n
times_one n = omega arith

pub negated_room : (l : Linear) (a : Expr) → l ≡ roll-Linear (scaled (negsuc 0) (parts_of a)) → IsSound a → parts_size (out-Linear l) ≤ bound_of a
negated_room l a h s =
    omega (arith, ap parts_size (out_of l (scaled (negsuc 0) (parts_of a)) h), scaled-size (negsuc 0) (parts_of a), times_one (parts_size (parts_of a)), parts-size a s.0 s.1)

pub product_room : (l m : Linear) (a b : Expr) → l ≡ linear_form a → m ≡ linear_form b → IsSound a → IsSound b → bound_of a * bound_of b ≤ 2 ^ 110
    → parts_size (out-Linear l) * parts_size (out-Linear m) ≤ 2 ^ 110
product_room l m a b h g s t w =
    omega (arith, mul-mono (parts_size (out-Linear l)) (parts_size (out-Linear m)) (bound_of a) (bound_of b) (form_room l a h s) (form_room m b g t))

-- ---- results
pub if_ok_same : {A E : Type 0} (r : Result A E) (x y : A) → x ≡ y → IfOk r (λ l. l ≡ x) → IfOk r (λ l. l ≡ y)
if_ok_same (Ok v) x y e h = h ∙ e
if_ok_same (Err v) x y e h = h

pub sum_form : (l m : Linear) (p q : Parts) → out-Linear l ≡ p → out-Linear m ≡ q → roll-Linear (joined (out-Linear l) (out-Linear m)) ≡ roll-Linear (joined p q)
sum_form l m p q h g = ap (λ u. roll-Linear (joined u (out-Linear m))) h ∙ ap (λ u. roll-Linear (joined p u)) g

pub times_form : (l m : Linear) (p q : Parts) → out-Linear l ≡ p → out-Linear m ≡ q
    → roll-Linear (product_by (out-Linear m).terms (out-Linear m).opaque (out-Linear l) (out-Linear m)) ≡ roll-Linear (product_by q.terms q.opaque p q)
times_form l m p q h g =
    ap (λ u. roll-Linear (product_by (out-Linear m).terms (out-Linear m).opaque u (out-Linear m))) h
    ∙ ap (λ u. roll-Linear (product_by u.terms u.opaque p u)) g

pub divided_form : (l : Linear) (a b : Expr) (kind : DivKind) (v : ℤ) → l ≡ linear_form a → IsDivisor b → IsSound b → v ≡ constant_value b
    → roll-Linear (division_of (out-Linear l).terms (out-Linear l).opaque kind (out-Linear l) (to_z w128 (of_z w128 v))) ≡ roll-Linear (divided kind (parts_of a) (parts_of b))
divided_form l a b kind v h d s e =
    let same : parts_of b ≡ constant_parts (constant_value b) = constant-parts (leaves [] []) b d.0 in
    let small : unsigned_abs (constant_value b) ≤ 2 ^ 110 = omega (arith, parts-size b s.0 s.1, sound-bound b s, ap (λ p. unsigned_abs p.constant) same) in
    ap (λ u. roll-Linear (division_of u.terms u.opaque kind u (to_z w128 (of_z w128 v)))) (out_form l a h)
    ∙ ap (λ w. roll-Linear (division_of (parts_of a).terms (parts_of a).opaque kind (parts_of a) w))
    (ap (λ w. to_z w128 (of_z w128 w)) e ∙ kept (constant_value b) small ∙ sym (ap (λ p. p.constant) same))
