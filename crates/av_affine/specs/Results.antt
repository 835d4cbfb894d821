-- What the results of a map are, and when an affine set holds.
use Rattle.std.specs.Prelude.{◌≡◌, ◌^◌, ℤ, pos, neg_ℤ, ◌≤ℤ◌, List, map, Bool, true, false}
use Rattle.av_affine.specs.declared.expression.Leaf.{Leaf}
use Rattle.av_affine.specs.declared.expression.Expr.{Expr}
use Rattle.av_affine.specs.declared.expression.SetRow.{SetRow}
use Rattle.av_affine.specs.Values.{value_of}

-- the values of a list of expressions, in order
abbrev pub values_of : (Leaf → ℤ) → List Expr → List ℤ
values_of at es = map (value_of at) es

-- a number that a map may give
abbrev pub IsIndex : ℤ → Type 0
IsIndex z = (neg_ℤ (pos (2 ^ 47)) ≤ℤ z) × (z ≤ℤ pos (2 ^ 47))

-- the value of an expression is one that a map may give
abbrev pub GivesIndex : (Leaf → ℤ) → Expr → Type 0
GivesIndex at e = IsIndex (value_of at e)

-- what a row of a set asks of its left side: to be zero, or at least zero
abbrev pub MeetsZero : Bool → ℤ → Type 0
MeetsZero true z = z ≡ pos 0
MeetsZero false z = pos 0 ≤ℤ z

-- a row of a set holds
abbrev pub RowHolds : (Leaf → ℤ) → SetRow → Type 0
RowHolds at row = MeetsZero row.equal (value_of at row.left)
