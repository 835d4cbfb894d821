use Rattle.av_shapes.proofs.Products.{extent-bounds, scaled-bounds}
use Rattle.av_shapes.proofs.Shape.extent.Goals as goal

pub returns-then-dimension-sizes-clause-bounds : goal.returns-then-dimension-sizes-clause-bounds
returns-then-dimension-sizes-clause-bounds c =
    rw c.sizes-sizes.ensures.value (scaled-bounds c.args.self.now.sizes c.args.dimension c.args.scale
    c.requires.dimension c.sizes-sizes.ensures.bounds c.requires.scale.0)

pub returns-else-self-clause-bounds : goal.returns-else-self-clause-bounds
returns-else-self-clause-bounds c =
    rw c.sizes-sizes.ensures.value (extent-bounds c.args.self.now.sizes c.args.dimension c.args.scale
    c.requires.dimension c.sizes-sizes.ensures.bounds c.requires.scale.0)
