-- What the definitions give at each variant of an expression.
use Rattle.std.proofs.Common.{◌≡◌, ◌+◌, ◌*◌, ◌^◌, ◌≤◌, Some, refl}
use Rattle.std.specs.Prelude.{ℤ, neg_ℤ, ◌+ℤ◌, ◌-ℤ◌, ◌*ℤ◌, unsigned_abs, ◌⊎◌, true, false, ◌||◌, ◌&&◌, IsFalse}
use Rattle.av_affine.specs.declared.expression.Leaf.{Leaf}
use Rattle.av_affine.specs.declared.expression.Expr.{Expr}
use Rattle.av_affine.specs.declared.expression.Expr.TheVariants.{Param, Const, Neg, Add, Sub, Mul, Mod, Floor, Ceil}
use Rattle.av_affine.specs.declared.expression.Expr.TheBlock.{shape-the_row-Expr-0, hidden-the_row-Expr-0}
use denote.Hole.Carrier.{hidden}
use Rattle.av_affine.specs.Values.{value_of, remainder, floor_quotient, ceil_quotient}
use Rattle.av_affine.specs.Limits.{node_count, has_parameter, constant_value, IsDivisor, IsAffine, bound_of, IsWithin}
use Rattle.av_affine.specs.Finding.{bound_found, limited, sum_found, product_found, divisor_found, remainder_found, quotient_found}

pub value_of-Param : (at : Leaf → ℤ) (leaf : Leaf) → value_of at (Param leaf) ≡ at leaf
unfolding value_of shape-the_row-Expr-0 hidden-the_row-Expr-0 hidden
value_of-Param at leaf = refl

pub value_of-Const : (at : Leaf → ℤ) (z : ℤ) → value_of at (Const z) ≡ z
unfolding value_of shape-the_row-Expr-0 hidden-the_row-Expr-0 hidden
value_of-Const at z = refl

pub value_of-Neg : (at : Leaf → ℤ) (a : Expr) → value_of at (Neg a) ≡ neg_ℤ (value_of at a)
unfolding value_of shape-the_row-Expr-0 hidden-the_row-Expr-0 hidden
value_of-Neg at a = refl

pub value_of-Add : (at : Leaf → ℤ) (a : Expr) (b : Expr) → value_of at (Add a b) ≡ value_of at a +ℤ value_of at b
unfolding value_of shape-the_row-Expr-0 hidden-the_row-Expr-0 hidden
value_of-Add at a b = refl

pub value_of-Sub : (at : Leaf → ℤ) (a : Expr) (b : Expr) → value_of at (Sub a b) ≡ value_of at a -ℤ value_of at b
unfolding value_of shape-the_row-Expr-0 hidden-the_row-Expr-0 hidden
value_of-Sub at a b = refl

pub value_of-Mul : (at : Leaf → ℤ) (a : Expr) (b : Expr) → value_of at (Mul a b) ≡ value_of at a *ℤ value_of at b
unfolding value_of shape-the_row-Expr-0 hidden-the_row-Expr-0 hidden
value_of-Mul at a b = refl

pub value_of-Mod : (at : Leaf → ℤ) (a : Expr) (b : Expr) → value_of at (Mod a b) ≡ remainder (value_of at a) (value_of at b)
unfolding value_of shape-the_row-Expr-0 hidden-the_row-Expr-0 hidden
value_of-Mod at a b = refl

pub value_of-Floor : (at : Leaf → ℤ) (a : Expr) (b : Expr) → value_of at (Floor a b) ≡ floor_quotient (value_of at a) (value_of at b)
unfolding value_of shape-the_row-Expr-0 hidden-the_row-Expr-0 hidden
value_of-Floor at a b = refl

pub value_of-Ceil : (at : Leaf → ℤ) (a : Expr) (b : Expr) → value_of at (Ceil a b) ≡ ceil_quotient (value_of at a) (value_of at b)
unfolding value_of shape-the_row-Expr-0 hidden-the_row-Expr-0 hidden
value_of-Ceil at a b = refl

pub node_count-Param : (leaf : Leaf) → node_count (Param leaf) ≡ 1
unfolding node_count shape-the_row-Expr-0 hidden-the_row-Expr-0 hidden
node_count-Param leaf = refl

pub node_count-Const : (z : ℤ) → node_count (Const z) ≡ 1
unfolding node_count shape-the_row-Expr-0 hidden-the_row-Expr-0 hidden
node_count-Const z = refl

pub node_count-Neg : (a : Expr) → node_count (Neg a) ≡ node_count a + 1
unfolding node_count shape-the_row-Expr-0 hidden-the_row-Expr-0 hidden
node_count-Neg a = refl

pub node_count-Add : (a : Expr) (b : Expr) → node_count (Add a b) ≡ node_count a + node_count b + 1
unfolding node_count shape-the_row-Expr-0 hidden-the_row-Expr-0 hidden
node_count-Add a b = refl

pub node_count-Sub : (a : Expr) (b : Expr) → node_count (Sub a b) ≡ node_count a + node_count b + 1
unfolding node_count shape-the_row-Expr-0 hidden-the_row-Expr-0 hidden
node_count-Sub a b = refl

pub node_count-Mul : (a : Expr) (b : Expr) → node_count (Mul a b) ≡ node_count a + node_count b + 1
unfolding node_count shape-the_row-Expr-0 hidden-the_row-Expr-0 hidden
node_count-Mul a b = refl

pub node_count-Mod : (a : Expr) (b : Expr) → node_count (Mod a b) ≡ node_count a + node_count b + 1
unfolding node_count shape-the_row-Expr-0 hidden-the_row-Expr-0 hidden
node_count-Mod a b = refl

pub node_count-Floor : (a : Expr) (b : Expr) → node_count (Floor a b) ≡ node_count a + node_count b + 1
unfolding node_count shape-the_row-Expr-0 hidden-the_row-Expr-0 hidden
node_count-Floor a b = refl

pub node_count-Ceil : (a : Expr) (b : Expr) → node_count (Ceil a b) ≡ node_count a + node_count b + 1
unfolding node_count shape-the_row-Expr-0 hidden-the_row-Expr-0 hidden
node_count-Ceil a b = refl

pub has_parameter-Param : (leaf : Leaf) → has_parameter (Param leaf) ≡ true
unfolding has_parameter shape-the_row-Expr-0 hidden-the_row-Expr-0 hidden
has_parameter-Param leaf = refl

pub has_parameter-Const : (z : ℤ) → has_parameter (Const z) ≡ false
unfolding has_parameter shape-the_row-Expr-0 hidden-the_row-Expr-0 hidden
has_parameter-Const z = refl

pub has_parameter-Neg : (a : Expr) → has_parameter (Neg a) ≡ has_parameter a
unfolding has_parameter shape-the_row-Expr-0 hidden-the_row-Expr-0 hidden
has_parameter-Neg a = refl

pub has_parameter-Add : (a : Expr) (b : Expr) → has_parameter (Add a b) ≡ has_parameter a || has_parameter b
unfolding has_parameter shape-the_row-Expr-0 hidden-the_row-Expr-0 hidden
has_parameter-Add a b = refl

pub has_parameter-Sub : (a : Expr) (b : Expr) → has_parameter (Sub a b) ≡ has_parameter a || has_parameter b
unfolding has_parameter shape-the_row-Expr-0 hidden-the_row-Expr-0 hidden
has_parameter-Sub a b = refl

pub has_parameter-Mul : (a : Expr) (b : Expr) → has_parameter (Mul a b) ≡ has_parameter a || has_parameter b
unfolding has_parameter shape-the_row-Expr-0 hidden-the_row-Expr-0 hidden
has_parameter-Mul a b = refl

pub has_parameter-Mod : (a : Expr) (b : Expr) → has_parameter (Mod a b) ≡ has_parameter a || has_parameter b
unfolding has_parameter shape-the_row-Expr-0 hidden-the_row-Expr-0 hidden
has_parameter-Mod a b = refl

pub has_parameter-Floor : (a : Expr) (b : Expr) → has_parameter (Floor a b) ≡ has_parameter a || has_parameter b
unfolding has_parameter shape-the_row-Expr-0 hidden-the_row-Expr-0 hidden
has_parameter-Floor a b = refl

pub has_parameter-Ceil : (a : Expr) (b : Expr) → has_parameter (Ceil a b) ≡ has_parameter a || has_parameter b
unfolding has_parameter shape-the_row-Expr-0 hidden-the_row-Expr-0 hidden
has_parameter-Ceil a b = refl

pub bound_of-Param : (leaf : Leaf) → bound_of (Param leaf) ≡ 2 ^ 63
unfolding bound_of shape-the_row-Expr-0 hidden-the_row-Expr-0 hidden
bound_of-Param leaf = refl

pub bound_of-Const : (z : ℤ) → bound_of (Const z) ≡ unsigned_abs z
unfolding bound_of shape-the_row-Expr-0 hidden-the_row-Expr-0 hidden
bound_of-Const z = refl

pub bound_of-Neg : (a : Expr) → bound_of (Neg a) ≡ bound_of a
unfolding bound_of shape-the_row-Expr-0 hidden-the_row-Expr-0 hidden
bound_of-Neg a = refl

pub bound_of-Add : (a : Expr) (b : Expr) → bound_of (Add a b) ≡ bound_of a + bound_of b
unfolding bound_of shape-the_row-Expr-0 hidden-the_row-Expr-0 hidden
bound_of-Add a b = refl

pub bound_of-Sub : (a : Expr) (b : Expr) → bound_of (Sub a b) ≡ bound_of a + bound_of b
unfolding bound_of shape-the_row-Expr-0 hidden-the_row-Expr-0 hidden
bound_of-Sub a b = refl

pub bound_of-Mul : (a : Expr) (b : Expr) → bound_of (Mul a b) ≡ bound_of a * bound_of b
unfolding bound_of shape-the_row-Expr-0 hidden-the_row-Expr-0 hidden
bound_of-Mul a b = refl

pub bound_of-Mod : (a : Expr) (b : Expr) → bound_of (Mod a b) ≡ unsigned_abs (constant_value b)
unfolding bound_of shape-the_row-Expr-0 hidden-the_row-Expr-0 hidden
bound_of-Mod a b = refl

pub bound_of-Floor : (a : Expr) (b : Expr) → bound_of (Floor a b) ≡ bound_of a + 1
unfolding bound_of shape-the_row-Expr-0 hidden-the_row-Expr-0 hidden
bound_of-Floor a b = refl

pub bound_of-Ceil : (a : Expr) (b : Expr) → bound_of (Ceil a b) ≡ bound_of a + 1
unfolding bound_of shape-the_row-Expr-0 hidden-the_row-Expr-0 hidden
bound_of-Ceil a b = refl

pub bound_found-Param : (leaf : Leaf) → bound_found (Param leaf) ≡ Some (2 ^ 63)
unfolding bound_found shape-the_row-Expr-0 hidden-the_row-Expr-0 hidden
bound_found-Param leaf = refl

pub bound_found-Const : (z : ℤ) → bound_found (Const z) ≡ limited (unsigned_abs z)
unfolding bound_found shape-the_row-Expr-0 hidden-the_row-Expr-0 hidden
bound_found-Const z = refl

pub bound_found-Neg : (a : Expr) → bound_found (Neg a) ≡ bound_found a
unfolding bound_found shape-the_row-Expr-0 hidden-the_row-Expr-0 hidden
bound_found-Neg a = refl

pub bound_found-Add : (a : Expr) (b : Expr) → bound_found (Add a b) ≡ sum_found (bound_found a) (bound_found b)
unfolding bound_found shape-the_row-Expr-0 hidden-the_row-Expr-0 hidden
bound_found-Add a b = refl

pub bound_found-Sub : (a : Expr) (b : Expr) → bound_found (Sub a b) ≡ sum_found (bound_found a) (bound_found b)
unfolding bound_found shape-the_row-Expr-0 hidden-the_row-Expr-0 hidden
bound_found-Sub a b = refl

pub bound_found-Mul : (a : Expr) (b : Expr) → bound_found (Mul a b) ≡ product_found (has_parameter a && has_parameter b) (bound_found a) (bound_found b)
unfolding bound_found shape-the_row-Expr-0 hidden-the_row-Expr-0 hidden
bound_found-Mul a b = refl

pub bound_found-Mod : (a : Expr) (b : Expr) → bound_found (Mod a b) ≡ remainder_found (bound_found a) (divisor_found (bound_found b) (has_parameter b) (constant_value b))
unfolding bound_found shape-the_row-Expr-0 hidden-the_row-Expr-0 hidden
bound_found-Mod a b = refl

pub bound_found-Floor : (a : Expr) (b : Expr) → bound_found (Floor a b) ≡ quotient_found (bound_found a) (divisor_found (bound_found b) (has_parameter b) (constant_value b))
unfolding bound_found shape-the_row-Expr-0 hidden-the_row-Expr-0 hidden
bound_found-Floor a b = refl

pub bound_found-Ceil : (a : Expr) (b : Expr) → bound_found (Ceil a b) ≡ quotient_found (bound_found a) (divisor_found (bound_found b) (has_parameter b) (constant_value b))
unfolding bound_found shape-the_row-Expr-0 hidden-the_row-Expr-0 hidden
bound_found-Ceil a b = refl

-- what an affine expression within the limit says of its parts
abbrev pub IsSound : Expr → Type 0
IsSound e = IsAffine e × IsWithin e

pub sound-Neg : (a : Expr) → IsSound (Neg a) → IsSound a
unfolding IsAffine IsWithin shape-the_row-Expr-0 hidden-the_row-Expr-0 hidden
sound-Neg a h = h

pub sound-Const : (z : ℤ) → IsSound (Const z) → unsigned_abs z ≤ 2 ^ 110
unfolding IsAffine IsWithin shape-the_row-Expr-0 hidden-the_row-Expr-0 hidden
sound-Const z h = h.1

pub sound-Add : (a b : Expr) → IsSound (Add a b) → IsSound a × IsSound b × (bound_of a + bound_of b ≤ 2 ^ 110)
unfolding IsAffine IsWithin shape-the_row-Expr-0 hidden-the_row-Expr-0 hidden
sound-Add a b h = ((h.0.0, h.1.0), (h.0.1, h.1.1), h.1.2)

pub sound-Sub : (a b : Expr) → IsSound (Sub a b) → IsSound a × IsSound b × (bound_of a + bound_of b ≤ 2 ^ 110)
unfolding IsAffine IsWithin shape-the_row-Expr-0 hidden-the_row-Expr-0 hidden
sound-Sub a b h = ((h.0.0, h.1.0), (h.0.1, h.1.1), h.1.2)

pub sound-Mul : (a b : Expr) → IsSound (Mul a b) → IsSound a × IsSound b × (bound_of a * bound_of b ≤ 2 ^ 110) × (IsFalse (has_parameter a) ⊎ IsFalse (has_parameter b))
unfolding IsAffine IsWithin shape-the_row-Expr-0 hidden-the_row-Expr-0 hidden
sound-Mul a b h = ((h.0.0, h.1.0), (h.0.1, h.1.1), h.1.2, h.0.2)

pub sound-Mod : (a b : Expr) → IsSound (Mod a b) → IsSound a × IsSound b × (unsigned_abs (constant_value b) ≤ 2 ^ 110) × IsDivisor b
unfolding IsAffine IsWithin shape-the_row-Expr-0 hidden-the_row-Expr-0 hidden
sound-Mod a b h = ((h.0.0, h.1.0), (h.0.1, h.1.1), h.1.2, h.0.2)

pub sound-Floor : (a b : Expr) → IsSound (Floor a b) → IsSound a × IsSound b × (bound_of a + 1 ≤ 2 ^ 110) × IsDivisor b
unfolding IsAffine IsWithin shape-the_row-Expr-0 hidden-the_row-Expr-0 hidden
sound-Floor a b h = ((h.0.0, h.1.0), (h.0.1, h.1.1), h.1.2, h.0.2)

pub sound-Ceil : (a b : Expr) → IsSound (Ceil a b) → IsSound a × IsSound b × (bound_of a + 1 ≤ 2 ^ 110) × IsDivisor b
unfolding IsAffine IsWithin shape-the_row-Expr-0 hidden-the_row-Expr-0 hidden
sound-Ceil a b h = ((h.0.0, h.1.0), (h.0.1, h.1.1), h.1.2, h.0.2)

-- each definition at all variants, for the tactics
pub ruleset counts = (node_count-Param, node_count-Const, node_count-Neg, node_count-Add, node_count-Sub, node_count-Mul, node_count-Mod, node_count-Floor, node_count-Ceil)

pub ruleset names = (has_parameter-Param, has_parameter-Const, has_parameter-Neg, has_parameter-Add, has_parameter-Sub, has_parameter-Mul, has_parameter-Mod, has_parameter-Floor, has_parameter-Ceil)

pub ruleset values = (value_of-Param, value_of-Const, value_of-Neg, value_of-Add, value_of-Sub, value_of-Mul, value_of-Mod, value_of-Floor, value_of-Ceil)

pub ruleset bounds = (bound_of-Param, bound_of-Const, bound_of-Neg, bound_of-Add, bound_of-Sub, bound_of-Mul, bound_of-Mod, bound_of-Floor, bound_of-Ceil)

pub ruleset found = (bound_found-Param, bound_found-Const, bound_found-Neg, bound_found-Add, bound_found-Sub, bound_found-Mul, bound_found-Mod, bound_found-Floor, bound_found-Ceil)
