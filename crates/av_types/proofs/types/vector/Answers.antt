use Rattle.av_types.proofs.Sizes.{taken_sizes}
use Rattle.av_types.proofs.types.vector.Goals as goal

pub shape_of-requires : goal.shape_of-requires
shape_of-requires c = taken_sizes c.args.dims.now c.args.name.now c.requires
