use Rattle.std.proofs.Common.{refl}
use Rattle.av_ir.proofs.Sizes.{held}
use Rattle.av_ir.proofs.places.cells.Goals as goal

pub loop-size-preserved : goal.loop-size-preserved
loop-size-preserved c =
    held c.args.sizes.now c.loop-size.size-index c.loop-size.all _ c.saturating_mul-all.result c.loop-size-test.true refl
    c.saturating_mul-all.ensures c.loop-size.invariant
