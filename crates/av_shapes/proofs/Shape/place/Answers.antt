use Rattle.std.proofs.Common.{arith, ◌∙◌}
use Rattle.av_shapes.specs.Places.{extents}
use Rattle.av_shapes.proofs.ExtentLemmas.{length-extents, index_read}
use Rattle.av_shapes.proofs.PlaceLemmas.{as_many, all_read, place-below, place-injective}
use Rattle.av_shapes.proofs.Shape.place.Goals as goal

pub overflow_mul-place : goal.overflow_mul-place
overflow_mul-place c =
    omega (
      arith,
      (index_read c.args.self.now c.args.scale c.args.at.now c.loop-dimension.dimension
          c.loop-dimension.place c.extent.result c.rank-dimension-end.ensures.bounds c.requires.scale c.requires.within
          (omega arith) c.extent.ensures.value c.loop-dimension.invariant).1,
    )

pub overflow_add-place : goal.overflow_add-place
overflow_add-place c =
    omega (
      arith,
      (index_read c.args.self.now c.args.scale c.args.at.now c.loop-dimension.dimension
          c.loop-dimension.place c.extent.result c.rank-dimension-end.ensures.bounds c.requires.scale c.requires.within
          (omega arith) c.extent.ensures.value c.loop-dimension.invariant).1,
    )

pub loop-dimension-preserved : goal.loop-dimension-preserved
loop-dimension-preserved c =
    (index_read c.args.self.now c.args.scale c.args.at.now c.loop-dimension.dimension
    c.loop-dimension.place c.extent.result c.rank-dimension-end.ensures.bounds c.requires.scale c.requires.within
    (omega arith) c.extent.ensures.value c.loop-dimension.invariant).0

pub returns-clause-value : goal.returns-clause-value
returns-clause-value c =
    let count = length-extents c.args.self.now c.args.scale in
    all_read (extents c.args.self.now c.args.scale) c.args.at.now c.loop-dimension.dimension c.loop-dimension.place
    (omega arith) c.loop-dimension.invariant

pub returns-clause-below : goal.returns-clause-below
returns-clause-below c =
    rw (returns-clause-value c) (place-below (extents c.args.self.now c.args.scale) c.args.at.now c.requires.within)

pub returns-clause-one_tuple : goal.returns-clause-one_tuple
returns-clause-one_tuple c = λ other within same.
    place-injective (extents c.args.self.now c.args.scale) other c.args.at.now within c.requires.within
    (same ∙ returns-clause-value c)

pub bounds-at-dimension : goal.bounds-at-dimension
bounds-at-dimension c =
    let count = length-extents c.args.self.now c.args.scale in
    let many = as_many (extents c.args.self.now c.args.scale) c.args.at.now c.requires.within in
    omega arith
