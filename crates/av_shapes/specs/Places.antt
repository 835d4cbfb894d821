-- The elements of a vector at a scale: how many there are, and where each one stands.
use Rattle.std.specs.Prelude.{ℕ, ◌+◌, ◌*◌, ◌<◌, ◌≤◌, if◌then◌else◌, List, [], ◌∷◌}
use Rattle.av_shapes.specs.Shape.{ShapeView, product}
use Rattle.av_shapes.specs.declared.TheConstants.{MAX_SCALE}

-- a scale: a number from 1 to the greatest scale
abbrev pub IsScale : ℕ → Type 0
IsScale scale = (1 ≤ scale) × (scale ≤ MAX_SCALE)

-- the sizes with the last one times the scale
abbrev pub scaled_last : ℕ → List ℕ → List ℕ
scaled_last scale [] = []
scaled_last scale (n ∷ []) = (n * scale) ∷ []
scaled_last scale (n ∷ m ∷ ms) = n ∷ scaled_last scale (m ∷ ms)

-- the extents of a shape at a scale: its sizes, of which the last counts times the scale where the
-- shape is scalable
abbrev pub extents : ShapeView → ℕ → List ℕ
extents v scale = if v.scalable then scaled_last scale v.sizes else v.sizes

-- the number of elements of a vector of the shape at a scale
abbrev pub lanes : ShapeView → ℕ → ℕ
lanes v scale = product (extents v scale)

-- an index tuple within extents: one index for each extent, below it
abbrev pub IsWithin : List ℕ → List ℕ → Type 0
IsWithin [] [] = Unit {0}
IsWithin (n ∷ ns) (i ∷ is) = (i < n) × IsWithin ns is
IsWithin _ _ = ⊥

-- the row-major place of an index tuple: a step of the first index passes all places of the
-- extents behind it
abbrev pub place : List ℕ → List ℕ → ℕ
place (n ∷ ns) (i ∷ is) = i * product ns + place ns is
place _ _ = 0
