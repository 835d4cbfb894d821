-- the results up to the place of the loop are renamed
use Rattle.std.proofs.Common.{◌≡◌, take}
use Rattle.std.specs.Prelude.{map}
use Rattle.av_maps.specs.Applying.{renamed_by}
use Rattle.av_maps.proofs.normal.renamed_all.Given as goal

abbrev pub invariant-loop-e : goal.invariant-loop-e
invariant-loop-e l =
    l.renamed_results ≡ map (renamed_by l.dims l.syms l.used) (take l.e-index l.results)
