-- what is left to go through gives the rest
use Rattle.std.proofs.Common.{◌≡◌, drop}
use Rattle.av_verify.specs.Maps.{occur_in, occurring}
use Rattle.av_verify.proofs.maps.occurring.Given as goal

abbrev pub invariant-loop-expr : goal.invariant-loop-expr
invariant-loop-expr l = occur_in l.map l.operands l.used (drop l.expr-index l.map.results) ≡ occurring l.map l.operands
