-- what is left to go through gives the rest
use Rattle.std.proofs.Common.{◌≡◌, drop}
use Rattle.av_affine_laws.specs.Normalised.{occur_in, occurring}
use Rattle.av_maps.specs.Applying.{kinds, used_kinds}
use Rattle.av_maps.proofs.normal.occurring.Given as goal

abbrev pub invariant-loop-e : goal.invariant-loop-e
invariant-loop-e l =
    occur_in (kinds l.dims l.syms) (used_kinds l.used) (drop l.e-index l.results) ≡ occurring (kinds l.dims l.syms) l.results
