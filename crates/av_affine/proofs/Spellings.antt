-- The spelling of a form has its value.
use Rattle.std.proofs.Common.{◌≡◌, List, [], ◌∷◌, Option, Some, None, sym, ap, ◌∙◌, arith}
use Rattle.std.specs.Prelude.{ℤ, pos, ◌+ℤ◌, ◌*ℤ◌}
use Rattle.std.specs.Ordering.{int_eq}
use Rattle.std.proofs.lemmas.Int.{ints}
use Rattle.av_affine.specs.declared.expression.Leaf.{Leaf}
use Rattle.av_affine.specs.declared.expression.Expr.{Expr}
use Rattle.av_affine.specs.declared.expression.Expr.TheVariants as expr
use Rattle.av_affine.specs.declared.linear.DivKind.{DivKind}
use Rattle.av_affine.specs.declared.linear.DivKind.TheVariants.{Mod, Floor, Ceil}
use Rattle.av_affine.specs.declared.linear.Term.{Term}
use Rattle.av_affine.specs.declared.linear.Linear.{Linear, Linear', Row_of-Opaque, end_of-Opaque, more_of-Opaque}
use Rattle.av_affine.specs.declared.linear.Opaque.{Opaque, Opaque'}
use Rattle.av_affine.specs.Values.{value_of}
use Rattle.av_affine.specs.Forms.{divide, terms_value, form_value, opaque_value, row_value, linear_form}
use Rattle.av_affine.specs.Spelling.{times, plus, division, plus_terms, plus_constant, spelled, spelled_opaque, plus_row, SpellingLaw}
use Rattle.av_affine.proofs.Variants.{value_of-Param, value_of-Const, value_of-Add, value_of-Mul, value_of-Mod, value_of-Floor, value_of-Ceil}
use Rattle.av_affine.proofs.FormValues.{choose, int_eq-true}
use Rattle.av_affine.proofs.ExprForms.{form-value-law}

-- the value of what is spelled so far
abbrev so_far : (Leaf → ℤ) → Option Expr → ℤ
so_far at None = pos 0
so_far at (Some e) = value_of at e

one_times : (x : ℤ) → x *ℤ pos 1 ≡ x
one_times x = omega (arith, ints)

times-value : (at : Leaf → ℤ) (e : Expr) (f : ℤ) → value_of at (times e f) ≡ value_of at e *ℤ f
times-value at e f =
    choose (λ x. value_of at x ≡ value_of at e *ℤ f) (int_eq f (pos 1)) e (expr.Mul e (expr.Const f))
    (λ h. sym (ap (λ x. value_of at e *ℤ x) (int_eq-true f (pos 1) h) ∙ one_times (value_of at e)))
    (λ h. value_of-Mul at e (expr.Const f) ∙ ap (λ x. value_of at e *ℤ x) (value_of-Const at f))

zero_sum : (x : ℤ) → x ≡ pos 0 +ℤ x
zero_sum x = omega (arith, ints)

sum_zero : (x : ℤ) → x ≡ x +ℤ pos 0
sum_zero x = omega (arith, ints)

turned : (a b c : ℤ) → (a +ℤ b) +ℤ c ≡ a +ℤ (b +ℤ c)
turned a b c = omega (arith, ints)

plus-value : (at : Leaf → ℤ) (s : Option Expr) (e : Expr) → so_far at (plus s e) ≡ so_far at s +ℤ value_of at e
plus-value at None e = zero_sum (value_of at e)
plus-value at (Some s) e = value_of-Add at s e

division-value : (at : Leaf → ℤ) (kind : DivKind) (a b : Expr) → value_of at (division kind a b) ≡ divide kind (value_of at a) (value_of at b)
division-value at Mod a b = value_of-Mod at a b
division-value at Floor a b = value_of-Floor at a b
division-value at Ceil a b = value_of-Ceil at a b

plus_terms-value : (at : Leaf → ℤ) (s : Option Expr) (ts : List Term) → so_far at (plus_terms s ts) ≡ so_far at s +ℤ terms_value at ts
unfolding plus_terms terms_value
plus_terms-value at s [] = sum_zero (so_far at s)
plus_terms-value at s (t ∷ ts) =
    plus_terms-value at (plus s (times (expr.Param t.leaf) t.factor)) ts
    ∙ ap (λ x. x +ℤ terms_value at ts) (plus-value at s (times (expr.Param t.leaf) t.factor))
    ∙ ap (λ x. so_far at s +ℤ x +ℤ terms_value at ts) (times-value at (expr.Param t.leaf) t.factor ∙ ap (λ x. x *ℤ t.factor) (value_of-Param at t.leaf))
    ∙ turned (so_far at s) (at t.leaf *ℤ t.factor) (terms_value at ts)

plus_constant-value : (at : Leaf → ℤ) (s : Option Expr) (c : ℤ) → value_of at (plus_constant s c) ≡ so_far at s +ℤ c
plus_constant-value at None c = value_of-Const at c ∙ zero_sum c
plus_constant-value at (Some e) c =
    choose (λ x. value_of at x ≡ value_of at e +ℤ c) (int_eq c (pos 0)) e (expr.Add e (expr.Const c))
    (λ h. sum_zero (value_of at e) ∙ ap (λ x. value_of at e +ℤ x) (sym (int_eq-true c (pos 0) h)))
    (λ h. value_of-Add at e (expr.Const c) ∙ ap (λ x. value_of at e +ℤ x) (value_of-Const at c))

mutual
  unfolding spelled spelled_opaque plus_row form_value opaque_value row_value

  spelled-value : (at : Leaf → ℤ) (l : Linear) → value_of at (spelled l) ≡ form_value at l
  spelled-value at (Linear' terms s row constant) =
      plus_constant-value at (plus_row (plus_terms None terms) row) constant
      ∙ ap (λ x. x +ℤ constant) (plus_row-value at (plus_terms None terms) row)
      ∙ ap (λ x. x +ℤ row_value at row +ℤ constant) (plus_terms-value at None terms ∙ sym (zero_sum (terms_value at terms)))

  spelled_opaque-value : (at : Leaf → ℤ) (o : Opaque) → value_of at (spelled_opaque o) ≡ opaque_value at o
  spelled_opaque-value at (Opaque' kind inner by factor) =
      times-value at (division kind (spelled inner) (expr.Const by)) factor
      ∙ ap (λ x. x *ℤ factor) (division-value at kind (spelled inner) (expr.Const by)
      ∙ ap (λ x. divide kind x (value_of at (expr.Const by))) (spelled-value at inner)
      ∙ ap (divide kind (form_value at inner)) (value_of-Const at by))

  plus_row-value : (at : Leaf → ℤ) (s : Option Expr) {m : _} (row : Row_of-Opaque m) → so_far at (plus_row s row) ≡ so_far at s +ℤ row_value at row
  plus_row-value at s end_of-Opaque = sum_zero (so_far at s)
  plus_row-value at s (more_of-Opaque o rest) =
      plus_row-value at (plus s (spelled_opaque o)) rest
      ∙ ap (λ x. x +ℤ row_value at rest) (plus-value at s (spelled_opaque o))
      ∙ ap (λ x. so_far at s +ℤ x +ℤ row_value at rest) (spelled_opaque-value at o)
      ∙ turned (so_far at s) (opaque_value at o) (row_value at rest)

pub spelling-law : SpellingLaw
spelling-law = ((λ l at. spelled-value at l), (λ e h at. spelled-value at (linear_form e) ∙ form-value-law e h at))
