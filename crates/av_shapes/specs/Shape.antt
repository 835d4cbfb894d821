-- What a contract sees of a `Shape`.
use Rattle.std.specs.Prelude.{ℕ, ◌*◌, ◌≤◌, Bool, ◌&&◌, nat_eq, List, [], ◌∷◌, length, refl}
use Rattle.std.specs.Bool.{beq}
use Rattle.std.specs.Coded.{Coded, code_by, coded×, coded_ℕ, coded_bool, coded_list}
use Rattle.std.specs.Cmp.Lexicographic.{pointwise}

-- the sizes of a shape, outermost first, and whether the last one counts times the scale
pub record ShapeView : Type 0 where
  pub sizes : List ℕ
  pub scalable : Bool

-- a shape is stored as the pair of its sizes and its flag
abbrev pub shape_code : Coded ShapeView
shape_code =
    code_by (List ℕ × Bool) (coded× (coded_list coded_ℕ) coded_bool) (λ v. (v.sizes, v.scalable))
    (λ p. record { sizes = p.0; scalable = p.1 }) (λ _. refl)

-- the product of a list of numbers
abbrev pub product : List ℕ → ℕ
product [] = 1
product (n ∷ ns) = n * product ns

-- what the sizes of a shape are: one to three numbers, with a product of 1 to 256
abbrev pub AreSizes : List ℕ → Type 0
AreSizes sizes = (1 ≤ length sizes) × (length sizes ≤ 3) × (1 ≤ product sizes)
    × (product sizes ≤ 256)

-- the two have the same sizes and the same flag
abbrev pub shape_eq : ShapeView → ShapeView → Bool
shape_eq v w = pointwise nat_eq v.sizes w.sizes && beq v.scalable w.scalable
