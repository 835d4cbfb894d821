-- the results up to the place of the loop have numbers
use Rattle.std.proofs.Common.{◌≡◌, take}
use Rattle.std.specs.Prelude.{map}
use Rattle.av_maps.specs.Written.{expr_of}
use Rattle.av_maps.proofs.written.map_of.Given as goal

abbrev pub invariant-loop-expr : goal.invariant-loop-expr
invariant-loop-expr l = l.results ≡ map (expr_of l.dims l.syms) (take l.expr-index l.text.results)
