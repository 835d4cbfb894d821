use Rattle.std.proofs.Common.{◌≡◌, map, take}
use Rattle.av_totree.specs.Maps.{expression_of}
use Rattle.av_totree.proofs.maps.expression_texts.Given as goal

abbrev pub invariant-loop-expr : goal.invariant-loop-expr
invariant-loop-expr l = l.texts ≡ map expression_of (take l.expr-index l.exprs)
