-- Indices that are below the extents one by one.
use Rattle.std.proofs.Common.{◌≡◌, ℕ, ◌+◌, ◌<◌, ◌≤◌, List, [], ◌∷◌, length, get_or, suc, arith}
use Rattle.av_shapes.specs.Places.{IsWithin}

pub within_all : (ns is : List ℕ) → length is ≡ length ns → ((k : ℕ) → k < length is → get_or is k 0 < get_or ns k 0) → IsWithin ns is
within_all [] [] e h = tt
within_all [] (i ∷ is) e h = omega (arith, e)
within_all (n ∷ ns) [] e h = omega (arith, e)
within_all (n ∷ ns) (i ∷ is) e h = (h 0 (omega arith), within_all ns is (omega (arith, e)) (λ k below. h (suc k) (omega (arith, below))))
