-- How far from zero the factors of a form are, all together.
use Rattle.std.specs.Prelude.{ℕ, ◌+◌, ◌≤◌, List, [], ◌∷◌, unsigned_abs}
use Rattle.av_affine.specs.declared.expression.Expr.{Expr}
use Rattle.av_affine.specs.declared.linear.Term.{Term}
use Rattle.av_affine.specs.declared.linear.Opaque.{Opaque}
use Rattle.av_affine.specs.Limits.{IsAffine, IsWithin, bound_of}
use Rattle.av_affine.specs.Forms.{Parts, factor_of, parts_of}

unfoldable pub terms_size : List Term → ℕ
terms_size [] = 0
terms_size (t ∷ ts) = unsigned_abs t.factor + terms_size ts

unfoldable pub opaques_size : List Opaque → ℕ
opaques_size [] = 0
opaques_size (o ∷ os) = unsigned_abs (factor_of o) + opaques_size os

-- the magnitudes of all factors and of the constant
abbrev pub parts_size : Parts → ℕ
parts_size p = terms_size p.terms + opaques_size p.opaque + unsigned_abs p.constant

-- the form of an affine expression within the limit has no more than the expression's bound
abbrev pub SizeLaw : Type 0
SizeLaw = (e : Expr) → IsAffine e → IsWithin e → parts_size (parts_of e) ≤ bound_of e
