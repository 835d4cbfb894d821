-- the sizes of the dimensions up to the place of the loop
use Rattle.std.proofs.Common.{◌≡◌, take}
use Rattle.std.specs.Prelude.{map}
use Rattle.av_types.specs.Texts.{size_of}
use Rattle.av_types.proofs.types.sizes_of.Given as goal

abbrev pub invariant-loop-dim : goal.invariant-loop-dim
invariant-loop-dim l = l.sizes ≡ map size_of (take l.dim-index l.dims)
