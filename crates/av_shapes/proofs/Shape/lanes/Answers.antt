use Rattle.std.proofs.Common.{◌≡◌, sym, true}
use Rattle.av_shapes.proofs.ExtentLemmas.{lanes-scalable}
use Rattle.av_shapes.proofs.Shape.lanes.Goals as goal

pub returns-then-self-clause-value : goal.returns-then-self-clause-value
returns-then-self-clause-value c =
    let flag : c.args.self.now.scalable ≡ true = cc in
    rw (c.product_of-at_scale_one.ensures, c.sizes.ensures.value)
    (sym (lanes-scalable c.args.self.now c.args.scale flag c.sizes.ensures.bounds.0))
