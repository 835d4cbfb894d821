-- What the definitions give at each variant of a written expression.
use Rattle.std.proofs.Common.{◌≡◌, ℕ, refl, List}
use Rattle.std.specs.Prelude.{ℤ}
use Rattle.av_affine.specs.declared.expression.Expr.TheVariants as expr
use Rattle.av_tree.specs.declared.written.ExprText.{ExprText}
use Rattle.av_tree.specs.declared.written.ExprText.TheVariants as text
use Rattle.av_tree.specs.declared.written.ExprText.TheBlock.{shape-the_row-ExprText-0, hidden-the_row-ExprText-0}
use denote.Hole.Carrier.{hidden}
use Rattle.av_maps.specs.Names.{leaf_of}
use Rattle.av_maps.specs.Written.{expr_of}

pub expr_of-Name : (dims syms : List (List ℕ)) (name : List ℕ) → expr_of dims syms (text.Name name) ≡ expr.Param (leaf_of dims syms name)
unfolding expr_of shape-the_row-ExprText-0 hidden-the_row-ExprText-0 hidden
expr_of-Name dims syms name = refl

pub expr_of-Const : (dims syms : List (List ℕ)) (z : ℤ) → expr_of dims syms (text.Const z) ≡ expr.Const z
unfolding expr_of shape-the_row-ExprText-0 hidden-the_row-ExprText-0 hidden
expr_of-Const dims syms z = refl

pub expr_of-Neg : (dims syms : List (List ℕ)) (a : ExprText) → expr_of dims syms (text.Neg a) ≡ expr.Neg (expr_of dims syms a)
unfolding expr_of shape-the_row-ExprText-0 hidden-the_row-ExprText-0 hidden
expr_of-Neg dims syms a = refl

pub expr_of-Add : (dims syms : List (List ℕ)) (a b : ExprText) → expr_of dims syms (text.Add a b) ≡ expr.Add (expr_of dims syms a) (expr_of dims syms b)
unfolding expr_of shape-the_row-ExprText-0 hidden-the_row-ExprText-0 hidden
expr_of-Add dims syms a b = refl

pub expr_of-Sub : (dims syms : List (List ℕ)) (a b : ExprText) → expr_of dims syms (text.Sub a b) ≡ expr.Sub (expr_of dims syms a) (expr_of dims syms b)
unfolding expr_of shape-the_row-ExprText-0 hidden-the_row-ExprText-0 hidden
expr_of-Sub dims syms a b = refl

pub expr_of-Mul : (dims syms : List (List ℕ)) (a b : ExprText) → expr_of dims syms (text.Mul a b) ≡ expr.Mul (expr_of dims syms a) (expr_of dims syms b)
unfolding expr_of shape-the_row-ExprText-0 hidden-the_row-ExprText-0 hidden
expr_of-Mul dims syms a b = refl

pub expr_of-Mod : (dims syms : List (List ℕ)) (a b : ExprText) → expr_of dims syms (text.Mod a b) ≡ expr.Mod (expr_of dims syms a) (expr_of dims syms b)
unfolding expr_of shape-the_row-ExprText-0 hidden-the_row-ExprText-0 hidden
expr_of-Mod dims syms a b = refl

pub expr_of-Floor : (dims syms : List (List ℕ)) (a b : ExprText) → expr_of dims syms (text.Floor a b) ≡ expr.Floor (expr_of dims syms a) (expr_of dims syms b)
unfolding expr_of shape-the_row-ExprText-0 hidden-the_row-ExprText-0 hidden
expr_of-Floor dims syms a b = refl

pub expr_of-Ceil : (dims syms : List (List ℕ)) (a b : ExprText) → expr_of dims syms (text.Ceil a b) ≡ expr.Ceil (expr_of dims syms a) (expr_of dims syms b)
unfolding expr_of shape-the_row-ExprText-0 hidden-the_row-ExprText-0 hidden
expr_of-Ceil dims syms a b = refl

pub ruleset numbered = (expr_of-Name, expr_of-Const, expr_of-Neg, expr_of-Add, expr_of-Sub, expr_of-Mul, expr_of-Mod, expr_of-Floor, expr_of-Ceil)
