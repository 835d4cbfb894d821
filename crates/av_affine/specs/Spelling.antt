-- The expression that spells a linear form.
use Rattle.std.specs.Prelude.{◌≡◌, ℤ, pos, List, [], ◌∷◌, Option, Some, None, if◌then◌else◌}
use Rattle.std.specs.Ordering.{int_eq}
use Rattle.av_affine.specs.declared.expression.Leaf.{Leaf}
use Rattle.av_affine.specs.declared.expression.Expr.{Expr}
use Rattle.av_affine.specs.declared.expression.Expr.TheVariants as expr
use Rattle.av_affine.specs.declared.linear.DivKind.{DivKind}
use Rattle.av_affine.specs.declared.linear.DivKind.TheVariants.{Mod, Floor, Ceil}
use Rattle.av_affine.specs.declared.linear.Term.{Term}
use Rattle.av_affine.specs.declared.linear.Linear.{Linear, Linear', Row_of-Opaque, end_of-Opaque, more_of-Opaque}
use Rattle.av_affine.specs.declared.linear.Opaque.{Opaque, Opaque'}
use Rattle.av_affine.specs.Values.{value_of}
use Rattle.av_affine.specs.Limits.{IsAffine}
use Rattle.av_affine.specs.Forms.{form_value, linear_form}

-- a product with its factor on the right; a factor of 1 is left out
abbrev pub times : Expr → ℤ → Expr
times e f = if int_eq f (pos 1) then e else expr.Mul e (expr.Const f)

-- one summand more, on the right
abbrev pub plus : Option Expr → Expr → Option Expr
plus None e = Some e
plus (Some s) e = Some (expr.Add s e)

abbrev pub division : DivKind → Expr → Expr → Expr
division Mod a b = expr.Mod a b
division Floor a b = expr.Floor a b
division Ceil a b = expr.Ceil a b

unfoldable pub plus_terms : Option Expr → List Term → Option Expr
plus_terms s [] = s
plus_terms s (t ∷ ts) = plus_terms (plus s (times (expr.Param t.leaf) t.factor)) ts

-- with the constant at the end; 0 is left out beside other summands
abbrev pub plus_constant : Option Expr → ℤ → Expr
plus_constant None c = expr.Const c
plus_constant (Some s) c = if int_eq c (pos 0) then s else expr.Add s (expr.Const c)

-- the terms, then the opaque terms, then the constant, added from the left; the inside of an opaque term is spelled in the same way
unfoldable mutual
  pub spelled : Linear → Expr
  spelled (Linear' terms s row constant) = plus_constant (plus_row (plus_terms None terms) row) constant

  pub spelled_opaque : Opaque → Expr
  spelled_opaque (Opaque' kind inner by factor) = times (division kind (spelled inner) (expr.Const by)) factor

  pub plus_row : Option Expr → {m : _} → Row_of-Opaque m → Option Expr
  plus_row s end_of-Opaque = s
  plus_row s (more_of-Opaque o rest) = plus_row (plus s (spelled_opaque o)) rest

-- the spelling has the value of the form, and that of an affine expression's form has the expression's
abbrev pub SpellingLaw : Type 0
SpellingLaw =
    ((l : Linear) (at : Leaf → ℤ) → value_of at (spelled l) ≡ form_value at l)
    × ((e : Expr) → IsAffine e → (at : Leaf → ℤ) → value_of at (spelled (linear_form e)) ≡ value_of at e)

-- the same over a list
unfoldable pub plus_opaques : Option Expr → List Opaque → Option Expr
plus_opaques s [] = s
plus_opaques s (o ∷ os) = plus_opaques (plus s (spelled_opaque o)) os
