use Rattle.av_shapes.specs.Places.{extents}
use Rattle.av_shapes.proofs.PlaceLemmas.{IsReadTo}
use Rattle.av_shapes.proofs.Shape.place.Given as goal

abbrev pub invariant-loop-dimension : goal.invariant-loop-dimension
invariant-loop-dimension l = IsReadTo (extents l.self l.scale) l.at l.dimension l.place
