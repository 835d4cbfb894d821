use Rattle.std.proofs.Common.{arith}
use Rattle.av_tree.specs.declared.written.DimText.TheVariants.{Fixed}
use Rattle.av_types.proofs.Sizes.{dim_below}
use Rattle.av_types.proofs.types.sizes_of.Goals as goal

pub overflow_cast-size_of : goal.overflow_cast-size_of
overflow_cast-size_of c =
    let below = dim_below c.args.dims.now c.loop-dim.dim-index (Fixed 0) c.requires.2 (omega arith) in
    omega (arith, c.requires.3, c.size_of.ensures, below)
