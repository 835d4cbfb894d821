-- the sizes up to the place of the loop are these extents
use Rattle.std.proofs.Common.{◌≡◌, take}
use Rattle.std.specs.Prelude.{map}
use Rattle.av_types.specs.Types.{extent_of}
use Rattle.av_types.proofs.types.extents.Given as goal

abbrev pub invariant-loop-size : goal.invariant-loop-size
invariant-loop-size l = l.extents ≡ map extent_of (take l.size-index l.sizes)
