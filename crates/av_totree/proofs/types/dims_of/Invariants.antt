use Rattle.std.proofs.Common.{◌≡◌, ◌++◌, drop}
use Rattle.av_totree.specs.Types.{dims_of}
use Rattle.av_totree.proofs.types.dims_of.Given as goal

abbrev pub invariant-loop-place : goal.invariant-loop-place
invariant-loop-place l = l.texts ++ dims_of l.scalable (drop l.place l.sizes) ≡ dims_of l.scalable l.sizes
