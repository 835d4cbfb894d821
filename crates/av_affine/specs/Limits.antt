-- Which expressions are affine and within the limits of their size.
use Rattle.std.specs.Prelude.{ℕ, ◌+◌, ◌*◌, ◌^◌, ◌≤◌, ℤ, pos, ◌≤ℤ◌, unsigned_abs, ◌⊎◌, [], Bool, true, false, ◌||◌, IsFalse}
use Rattle.av_affine.specs.declared.expression.Expr.{Expr, Param, Const, Neg', Add', Sub', Mul', Mod', Floor', Ceil', end_of-Expr, more_of-Expr}
use Rattle.av_affine.specs.Values.{leaves, value_of}

-- how many names, numbers, signs and words an expression has; a number with its sign is one
unfoldable pub node_count : Expr → ℕ
node_count (Param leaf) = 1
node_count (Const z) = 1
node_count (Neg' s (more_of-Expr a end_of-Expr)) = node_count a + 1
node_count (Add' s (more_of-Expr a end_of-Expr) t (more_of-Expr b end_of-Expr)) = node_count a + node_count b + 1
node_count (Sub' s (more_of-Expr a end_of-Expr) t (more_of-Expr b end_of-Expr)) = node_count a + node_count b + 1
node_count (Mul' s (more_of-Expr a end_of-Expr) t (more_of-Expr b end_of-Expr)) = node_count a + node_count b + 1
node_count (Mod' s (more_of-Expr a end_of-Expr) t (more_of-Expr b end_of-Expr)) = node_count a + node_count b + 1
node_count (Floor' s (more_of-Expr a end_of-Expr) t (more_of-Expr b end_of-Expr)) = node_count a + node_count b + 1
node_count (Ceil' s (more_of-Expr a end_of-Expr) t (more_of-Expr b end_of-Expr)) = node_count a + node_count b + 1

-- whether a parameter occurs
unfoldable pub has_parameter : Expr → Bool
has_parameter (Param leaf) = true
has_parameter (Const z) = false
has_parameter (Neg' s (more_of-Expr a end_of-Expr)) = has_parameter a
has_parameter (Add' s (more_of-Expr a end_of-Expr) t (more_of-Expr b end_of-Expr)) = has_parameter a || has_parameter b
has_parameter (Sub' s (more_of-Expr a end_of-Expr) t (more_of-Expr b end_of-Expr)) = has_parameter a || has_parameter b
has_parameter (Mul' s (more_of-Expr a end_of-Expr) t (more_of-Expr b end_of-Expr)) = has_parameter a || has_parameter b
has_parameter (Mod' s (more_of-Expr a end_of-Expr) t (more_of-Expr b end_of-Expr)) = has_parameter a || has_parameter b
has_parameter (Floor' s (more_of-Expr a end_of-Expr) t (more_of-Expr b end_of-Expr)) = has_parameter a || has_parameter b
has_parameter (Ceil' s (more_of-Expr a end_of-Expr) t (more_of-Expr b end_of-Expr)) = has_parameter a || has_parameter b

-- the value of an expression without parameters
abbrev pub constant_value : Expr → ℤ
constant_value e = value_of (leaves [] []) e

-- a right side of `mod`, `floordiv` or `ceildiv`: no parameter, and a value of at least 1
abbrev pub IsDivisor : Expr → Type 0
IsDivisor e = IsFalse (has_parameter e) × (pos 1 ≤ℤ constant_value e)

-- one side of each product has no parameter, and each division is by a divisor
unfoldable pub IsAffine : Expr → Type 0
IsAffine (Param leaf) = Unit {0}
IsAffine (Const z) = Unit {0}
IsAffine (Neg' s (more_of-Expr a end_of-Expr)) = IsAffine a
IsAffine (Add' s (more_of-Expr a end_of-Expr) t (more_of-Expr b end_of-Expr)) = IsAffine a × IsAffine b
IsAffine (Sub' s (more_of-Expr a end_of-Expr) t (more_of-Expr b end_of-Expr)) = IsAffine a × IsAffine b
IsAffine (Mul' s (more_of-Expr a end_of-Expr) t (more_of-Expr b end_of-Expr)) =
    IsAffine a × IsAffine b × (IsFalse (has_parameter a) ⊎ IsFalse (has_parameter b))
IsAffine (Mod' s (more_of-Expr a end_of-Expr) t (more_of-Expr b end_of-Expr)) = IsAffine a × IsAffine b × IsDivisor b
IsAffine (Floor' s (more_of-Expr a end_of-Expr) t (more_of-Expr b end_of-Expr)) = IsAffine a × IsAffine b × IsDivisor b
IsAffine (Ceil' s (more_of-Expr a end_of-Expr) t (more_of-Expr b end_of-Expr)) = IsAffine a × IsAffine b × IsDivisor b

-- how far from zero the value can be, where each parameter is at most 2 ^ 63
unfoldable pub bound_of : Expr → ℕ
bound_of (Param leaf) = 2 ^ 63
bound_of (Const z) = unsigned_abs z
bound_of (Neg' s (more_of-Expr a end_of-Expr)) = bound_of a
bound_of (Add' s (more_of-Expr a end_of-Expr) t (more_of-Expr b end_of-Expr)) = bound_of a + bound_of b
bound_of (Sub' s (more_of-Expr a end_of-Expr) t (more_of-Expr b end_of-Expr)) = bound_of a + bound_of b
bound_of (Mul' s (more_of-Expr a end_of-Expr) t (more_of-Expr b end_of-Expr)) = bound_of a * bound_of b
bound_of (Mod' s (more_of-Expr a end_of-Expr) t (more_of-Expr b end_of-Expr)) = unsigned_abs (constant_value b)
bound_of (Floor' s (more_of-Expr a end_of-Expr) t (more_of-Expr b end_of-Expr)) = bound_of a + 1
bound_of (Ceil' s (more_of-Expr a end_of-Expr) t (more_of-Expr b end_of-Expr)) = bound_of a + 1

-- the bound itself, and those of all parts, right sides too, are at most 2 ^ 110
unfoldable pub IsWithin : Expr → Type 0
IsWithin (Param leaf) = Unit {0}
IsWithin (Const z) = unsigned_abs z ≤ 2 ^ 110
IsWithin (Neg' s (more_of-Expr a end_of-Expr)) = IsWithin a
IsWithin (Add' s (more_of-Expr a end_of-Expr) t (more_of-Expr b end_of-Expr)) =
    IsWithin a × IsWithin b × (bound_of a + bound_of b ≤ 2 ^ 110)
IsWithin (Sub' s (more_of-Expr a end_of-Expr) t (more_of-Expr b end_of-Expr)) =
    IsWithin a × IsWithin b × (bound_of a + bound_of b ≤ 2 ^ 110)
IsWithin (Mul' s (more_of-Expr a end_of-Expr) t (more_of-Expr b end_of-Expr)) =
    IsWithin a × IsWithin b × (bound_of a * bound_of b ≤ 2 ^ 110)
IsWithin (Mod' s (more_of-Expr a end_of-Expr) t (more_of-Expr b end_of-Expr)) =
    IsWithin a × IsWithin b × (unsigned_abs (constant_value b) ≤ 2 ^ 110)
IsWithin (Floor' s (more_of-Expr a end_of-Expr) t (more_of-Expr b end_of-Expr)) =
    IsWithin a × IsWithin b × (bound_of a + 1 ≤ 2 ^ 110)
IsWithin (Ceil' s (more_of-Expr a end_of-Expr) t (more_of-Expr b end_of-Expr)) =
    IsWithin a × IsWithin b × (bound_of a + 1 ≤ 2 ^ 110)

-- an expression that a module may have: affine, of at most 64 nodes, and within the bound in all its parts
abbrev pub Admissible : Expr → Type 0
Admissible e = (node_count e ≤ 64) × IsAffine e × IsWithin e
