use Rattle.std.proofs.Common.{arith}
use Rattle.av_shapes.specs.Places.{extents}
use Rattle.av_shapes.proofs.ExtentLemmas.{length-extents}
use Rattle.av_run_cases.proofs.Within.{within_all}
use Rattle.av_run_cases.proofs.shapes.is_within.Goals as goal

pub returns : goal.returns
returns c = λ _.
    within_all (extents c.args.shape.now c.args.scale) c.args.indices.now
    (omega (arith, c.if-indices-rank.false, c.rank.ensures.value, length-extents c.args.shape.now c.args.scale))
    (λ k below. c.loop-dimension.invariant k (omega (arith, below, c.loop-dimension-test.false)))
