-- How the test of the limits goes: part by part, with no bound where a part fails.
use Rattle.std.specs.Prelude.{ℕ, ◌+◌, ◌*◌, ◌^◌, ℤ, pos, int_le, unsigned_abs, Bool, true, false, ◌&&◌, nat_le, if◌then◌else◌, Option, Some, None}
use Rattle.av_affine.specs.declared.expression.Expr.{Expr, Param, Const, Neg', Add', Sub', Mul', Mod', Floor', Ceil', end_of-Expr, more_of-Expr}
use Rattle.av_affine.specs.Limits.{has_parameter, constant_value}

-- a bound that is at most the limit
abbrev pub limited : ℕ → Option ℕ
limited n = if nat_le n (2 ^ 110) then Some n else None

abbrev pub sum_found : Option ℕ → Option ℕ → Option ℕ
sum_found (Some x) (Some y) = limited (x + y)
sum_found (Some x) None = None
sum_found None y = None

-- of a product: none where both sides have parameters
abbrev pub product_found : Bool → Option ℕ → Option ℕ → Option ℕ
product_found false (Some x) (Some y) = limited (x * y)
product_found true (Some x) (Some y) = None
product_found b (Some x) None = None
product_found b None y = None

-- of a right side: its value, if it is a divisor
abbrev pub divisor_found : Option ℕ → Bool → ℤ → Option ℕ
divisor_found None b z = None
divisor_found (Some x) true z = None
divisor_found (Some x) false z = if int_le (pos 1) z then Some (unsigned_abs z) else None

abbrev pub remainder_found : Option ℕ → Option ℕ → Option ℕ
remainder_found (Some x) (Some d) = limited d
remainder_found (Some x) None = None
remainder_found None d = None

abbrev pub quotient_found : Option ℕ → Option ℕ → Option ℕ
quotient_found (Some x) (Some d) = limited (x + 1)
quotient_found (Some x) None = None
quotient_found None d = None

-- the bound of an affine expression whose parts are all within the limit
unfoldable pub bound_found : Expr → Option ℕ
bound_found (Param leaf) = Some (2 ^ 63)
bound_found (Const z) = limited (unsigned_abs z)
bound_found (Neg' s (more_of-Expr a end_of-Expr)) = bound_found a
bound_found (Add' s (more_of-Expr a end_of-Expr) t (more_of-Expr b end_of-Expr)) = sum_found (bound_found a) (bound_found b)
bound_found (Sub' s (more_of-Expr a end_of-Expr) t (more_of-Expr b end_of-Expr)) = sum_found (bound_found a) (bound_found b)
bound_found (Mul' s (more_of-Expr a end_of-Expr) t (more_of-Expr b end_of-Expr)) =
    product_found (has_parameter a && has_parameter b) (bound_found a) (bound_found b)
bound_found (Mod' s (more_of-Expr a end_of-Expr) t (more_of-Expr b end_of-Expr)) =
    remainder_found (bound_found a) (divisor_found (bound_found b) (has_parameter b) (constant_value b))
bound_found (Floor' s (more_of-Expr a end_of-Expr) t (more_of-Expr b end_of-Expr)) =
    quotient_found (bound_found a) (divisor_found (bound_found b) (has_parameter b) (constant_value b))
bound_found (Ceil' s (more_of-Expr a end_of-Expr) t (more_of-Expr b end_of-Expr)) =
    quotient_found (bound_found a) (divisor_found (bound_found b) (has_parameter b) (constant_value b))
