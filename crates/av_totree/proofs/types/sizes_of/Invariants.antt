use Rattle.std.proofs.Common.{◌≡◌, map, take}
use Rattle.av_totree.specs.Types.{size_of}
use Rattle.av_totree.proofs.types.sizes_of.Given as goal

abbrev pub invariant-loop-size : goal.invariant-loop-size
invariant-loop-size l = l.texts ≡ map size_of (take l.size-index l.sizes)
