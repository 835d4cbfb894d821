use Rattle.av_shapes.specs.Places.{extents}
use Rattle.av_shapes.proofs.PlaceLemmas.{place-below, place-injective, place-surjective}
use Rattle.av_shapes.proofs.laws.places_are_lanes.Goals as goal

pub returns-clause-below : goal.returns-clause-below
returns-clause-below c = place-below (extents c.args.shape.now c.args.scale)

pub returns-clause-one_tuple : goal.returns-clause-one_tuple
returns-clause-one_tuple c = place-injective (extents c.args.shape.now c.args.scale)

pub returns-clause-all : goal.returns-clause-all
returns-clause-all c = place-surjective (extents c.args.shape.now c.args.scale)
