use Rattle.std.proofs.Common.{◌≡◌, ◌++◌, length, map, reverse}
use Rattle.av_values.specs.declared.value.Expression.{Expression}
use Rattle.av_values.proofs.joining.results_of.Given as goal

abbrev pub decreases-loop-expression : goal.decreases-loop-expression
decreases-loop-expression l = length l.expressions

abbrev pub invariant-loop-expression : goal.invariant-loop-expression
invariant-loop-expression l = l.results ++ map (λ (e : Expression). e.expr) (reverse l.expressions) ≡ map (λ (e : Expression). e.expr) (reverse l.fn.expressions)
