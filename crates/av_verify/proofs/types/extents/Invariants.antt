-- the sizes up to the place of the loop are small, and are these extents
use Rattle.std.proofs.Common.{◌≡◌, take, true}
use Rattle.std.specs.Prelude.{map}
use Rattle.std.specs.List.{list_all}
use Rattle.av_verify.specs.Types.{extent_of, is_small}
use Rattle.av_verify.proofs.types.extents.Given as goal

abbrev pub invariant-loop-size : goal.invariant-loop-size
invariant-loop-size l =
    (list_all is_small (take l.size-index l.sizes) ≡ true) × (l.extents ≡ map extent_of (take l.size-index l.sizes))
