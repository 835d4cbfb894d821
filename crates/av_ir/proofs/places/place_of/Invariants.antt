use Rattle.std.specs.Prelude.{unsigned_abs, map}
use Rattle.av_shapes.proofs.PlaceLemmas.{IsReadTo}
use Rattle.av_ir.proofs.places.place_of.Given as goal

abbrev pub invariant-loop-dimension : goal.invariant-loop-dimension
invariant-loop-dimension l = IsReadTo l.sizes (map unsigned_abs l.at) l.dimension l.place
