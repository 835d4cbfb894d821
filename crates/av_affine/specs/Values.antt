-- The value of an affine expression, over whole numbers.
use Rattle.std.specs.Prelude.{ℤ, pos, neg_ℤ, ◌+ℤ◌, ◌-ℤ◌, ◌*ℤ◌, List, slice_index_or}
use Rattle.std.specs.Int.{int_div_euclid, int_rem_euclid}
use Rattle.av_affine.specs.declared.expression.Leaf.{Leaf}
use Rattle.av_affine.specs.declared.expression.Leaf.TheVariants.{Dim, Sym}
use Rattle.av_affine.specs.declared.expression.Expr.{Expr, Param, Const, Neg', Add', Sub', Mul', Mod', Floor', Ceil', end_of-Expr, more_of-Expr}

-- x / d rounded down, for a d of at least 1
abbrev pub floor_quotient : ℤ → ℤ → ℤ
floor_quotient x d = int_div_euclid x d

-- x / d rounded up, for a d of at least 1
abbrev pub ceil_quotient : ℤ → ℤ → ℤ
ceil_quotient x d = neg_ℤ (floor_quotient (neg_ℤ x) d)

-- what is left of x by a d of at least 1: from 0 to d less one
abbrev pub remainder : ℤ → ℤ → ℤ
remainder x d = int_rem_euclid x d

-- the values of the parameters: dimensions and symbols by their places, and 0 past the ends
abbrev pub leaves : List ℤ → List ℤ → Leaf → ℤ
leaves dims syms (Dim k) = slice_index_or dims k (pos 0)
leaves dims syms (Sym k) = slice_index_or syms k (pos 0)

-- the value of an expression where its parameters have these values
unfoldable pub value_of : (Leaf → ℤ) → Expr → ℤ
value_of at (Param leaf) = at leaf
value_of at (Const z) = z
value_of at (Neg' s (more_of-Expr a end_of-Expr)) = neg_ℤ (value_of at a)
value_of at (Add' s (more_of-Expr a end_of-Expr) t (more_of-Expr b end_of-Expr)) = value_of at a +ℤ value_of at b
value_of at (Sub' s (more_of-Expr a end_of-Expr) t (more_of-Expr b end_of-Expr)) = value_of at a -ℤ value_of at b
value_of at (Mul' s (more_of-Expr a end_of-Expr) t (more_of-Expr b end_of-Expr)) = value_of at a *ℤ value_of at b
value_of at (Mod' s (more_of-Expr a end_of-Expr) t (more_of-Expr b end_of-Expr)) = remainder (value_of at a) (value_of at b)
value_of at (Floor' s (more_of-Expr a end_of-Expr) t (more_of-Expr b end_of-Expr)) = floor_quotient (value_of at a) (value_of at b)
value_of at (Ceil' s (more_of-Expr a end_of-Expr) t (more_of-Expr b end_of-Expr)) = ceil_quotient (value_of at a) (value_of at b)
