use Rattle.std.proofs.Common.{ℕ, ◌<◌, Contains}
use Rattle.av_shapes.proofs.Shape.can_permute.Given as goal

abbrev pub invariant-loop-dimension : goal.invariant-loop-dimension
invariant-loop-dimension l = (d : ℕ) → d < l.dimension → Contains l.order d
