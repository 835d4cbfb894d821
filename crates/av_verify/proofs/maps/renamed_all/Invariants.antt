-- the results up to the place of the loop are renamed
use Rattle.std.proofs.Common.{◌≡◌, take}
use Rattle.std.specs.Prelude.{map}
use Rattle.av_verify.specs.Maps.{renamed}
use Rattle.av_verify.proofs.maps.renamed_all.Given as goal

abbrev pub invariant-loop-expr : goal.invariant-loop-expr
invariant-loop-expr l = l.results ≡ map (renamed l.map l.operands l.used) (take l.expr-index l.map.results)
