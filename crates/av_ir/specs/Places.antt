-- The elements of a buffer: how many there are, and where each one stands.
use Rattle.std.specs.Prelude.{ℕ, ◌^◌, ℤ, pos, negsuc, Bool, true, false, ◌&&◌, nat_lt, nat_le, if◌then◌else◌, unsigned_abs, List, [], ◌∷◌, map, Option, Some, None}
use Rattle.av_shapes.specs.Shape.{product}
use Rattle.av_shapes.specs.Places.{place}
use Rattle.av_ir.specs.declared.ty.Ty.{Ty}

-- the number of patterns that a buffer of a memref type keeps: one for each element
abbrev pub patterns_of : Ty → List ℕ → ℕ
patterns_of ty sizes = product sizes

-- the same where a run may have that many, at most 2 ^ 26, and else none
abbrev pub cells_of : Ty → List ℕ → Option ℕ
cells_of ty sizes = if nat_le (patterns_of ty sizes) (2 ^ 26) then Some (patterns_of ty sizes) else None

-- a subscript is from 0 to its size less one
abbrev pub is_inside : ℕ → ℤ → Bool
is_inside size (pos i) = nat_lt i size
is_inside size (negsuc i) = false

-- one subscript for each size, and each inside
abbrev pub are_inside : List ℕ → List ℤ → Bool
are_inside [] [] = true
are_inside [] (z ∷ zs) = false
are_inside (n ∷ ns) [] = false
are_inside (n ∷ ns) (z ∷ zs) = is_inside n z && are_inside ns zs

-- the row-major place of an element, and none where a subscript is outside
abbrev pub place_of : Ty → List ℕ → List ℤ → Option ℕ
place_of ty sizes at = if are_inside sizes at then Some (place sizes (map unsigned_abs at)) else None
