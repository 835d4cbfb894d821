-- Expressions as they are written, constructor by constructor.
use Rattle.std.proofs.Common.{◌≡◌, ℕ, ap, sym, ◌∙◌, List}
use Rattle.std.specs.Prelude.{ℤ}
use Rattle.av_affine.specs.declared.expression.Leaf.{Leaf}
use Rattle.av_affine.specs.declared.expression.Expr.{Expr, fold-roll-Expr}
use Rattle.av_affine.specs.declared.expression.Expr.TheOpen as open_expr
use Rattle.av_affine.specs.declared.expression.Expr.TheVariants as expr
use Rattle.av_affine.specs.declared.expression.Expr.TheVariants.{rolls-Param, rolls-Const, rolls-Neg, rolls-Add, rolls-Sub, rolls-Mul, rolls-Mod, rolls-Floor, rolls-Ceil}
use Rattle.av_tree.specs.declared.written.ExprText.{ExprText}
use Rattle.av_tree.specs.declared.written.ExprText.TheVariants as text
use Rattle.av_totree.specs.Maps.{leaf_name, expression_step, expression_of}

pub param_text : (e : Expr) (leaf : Leaf) (x : List ℕ) → e ≡ expr.Param leaf → x ≡ leaf_name leaf → text.Name x ≡ expression_of e
unfolding expression_of
param_text e leaf x is h =
    ap text.Name h ∙ sym (ap expression_of (is ∙ sym (rolls-Param leaf)) ∙ fold-roll-Expr ExprText expression_step (open_expr.Param leaf))

pub const_text : (e : Expr) (z y : ℤ) → e ≡ expr.Const z → y ≡ z → text.Const y ≡ expression_of e
unfolding expression_of
const_text e z y is h =
    ap text.Const h ∙ sym (ap expression_of (is ∙ sym (rolls-Const z)) ∙ fold-roll-Expr ExprText expression_step (open_expr.Const z))

pub neg_text : (e a : Expr) (x : ExprText) → e ≡ expr.Neg a → x ≡ expression_of a → text.Neg x ≡ expression_of e
unfolding expression_of
neg_text e a x is h =
    ap text.Neg h ∙ sym (ap expression_of (is ∙ sym (rolls-Neg a)) ∙ fold-roll-Expr ExprText expression_step (open_expr.Neg a))

module _ (form : Expr → Expr → Expr) (made : ExprText → ExprText → ExprText) (alike : (a b : Expr) → expression_of (form a b) ≡ made (expression_of a) (expression_of b)) where
  pub pair_text : (e a b : Expr) (x y : ExprText) → e ≡ form a b → x ≡ expression_of a → y ≡ expression_of b → made x y ≡ expression_of e
  pair_text e a b x y is h k = ap (λ z. made z y) h ∙ ap (made (expression_of a)) k ∙ sym (alike a b) ∙ ap expression_of (sym is)

pub add_text : (a b : Expr) → expression_of (expr.Add a b) ≡ text.Add (expression_of a) (expression_of b)
unfolding expression_of
add_text a b = ap expression_of (sym (rolls-Add a b)) ∙ fold-roll-Expr ExprText expression_step (open_expr.Add a b)

pub sub_text : (a b : Expr) → expression_of (expr.Sub a b) ≡ text.Sub (expression_of a) (expression_of b)
unfolding expression_of
sub_text a b = ap expression_of (sym (rolls-Sub a b)) ∙ fold-roll-Expr ExprText expression_step (open_expr.Sub a b)

pub mul_text : (a b : Expr) → expression_of (expr.Mul a b) ≡ text.Mul (expression_of a) (expression_of b)
unfolding expression_of
mul_text a b = ap expression_of (sym (rolls-Mul a b)) ∙ fold-roll-Expr ExprText expression_step (open_expr.Mul a b)

pub mod_text : (a b : Expr) → expression_of (expr.Mod a b) ≡ text.Mod (expression_of a) (expression_of b)
unfolding expression_of
mod_text a b = ap expression_of (sym (rolls-Mod a b)) ∙ fold-roll-Expr ExprText expression_step (open_expr.Mod a b)

pub floor_text : (a b : Expr) → expression_of (expr.Floor a b) ≡ text.Floor (expression_of a) (expression_of b)
unfolding expression_of
floor_text a b = ap expression_of (sym (rolls-Floor a b)) ∙ fold-roll-Expr ExprText expression_step (open_expr.Floor a b)

pub ceil_text : (a b : Expr) → expression_of (expr.Ceil a b) ≡ text.Ceil (expression_of a) (expression_of b)
unfolding expression_of
ceil_text a b = ap expression_of (sym (rolls-Ceil a b)) ∙ fold-roll-Expr ExprText expression_step (open_expr.Ceil a b)
