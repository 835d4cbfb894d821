-- The orders in which the dimensions of a shape may be put.
use Rattle.std.specs.Prelude.{◌≡◌, ℕ, ◌-◌, ◌<◌, IsTrue, List, length, map, slice_index, Contains}
use Rattle.av_shapes.specs.Shape.{ShapeView}

-- a permutation of the dimensions 0 to rank - 1: one entry for each, and each one is an entry
pub record IsOrder (rank : ℕ) (order : List ℕ) : Type 0 where
  pub one_each : length order ≡ rank
  pub all : (d : ℕ) → d < rank → Contains order d

-- a permutation of the dimensions of a shape that leaves a scalable one, the last, where it is
pub record CanPermute (v : ShapeView) (order : List ℕ) : Type 0 where
  pub permutation : IsOrder (length v.sizes) order
  pub scalable_stays : IsTrue v.scalable
      → slice_index order (length v.sizes - 1) ≡ length v.sizes - 1

-- the sizes in an order: dimension d is dimension `order[d]` of the source
abbrev pub permuted_sizes : List ℕ → List ℕ → List ℕ
permuted_sizes sizes order = map (λ d. slice_index sizes d) order
