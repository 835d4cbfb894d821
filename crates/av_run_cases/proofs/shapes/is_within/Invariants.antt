use Rattle.std.proofs.Common.{ℕ, ◌<◌, get_or}
use Rattle.av_shapes.specs.Places.{extents}
use Rattle.av_run_cases.proofs.shapes.is_within.Given as goal

-- the indices read so far are below the sizes
abbrev pub invariant-loop-dimension : goal.invariant-loop-dimension
invariant-loop-dimension l = (k : ℕ) → k < l.dimension → get_or l.indices k 0 < get_or (extents l.shape l.scale) k 0
