-- what is left to compare decides
use Rattle.std.proofs.Common.{◌≡◌, drop}
use Rattle.std.specs.Cmp.Lexicographic.{pointwise}
use Rattle.av_verify.specs.Scopes.{agrees_at}
use Rattle.av_verify.proofs.scope.agree_on_operands.Given as goal

abbrev pub invariant-loop-at : goal.invariant-loop-at
invariant-loop-at l =
    pointwise (agrees_at l.values) (drop l.at l.written) (drop l.at l.operands) ≡ pointwise (agrees_at l.values) l.written l.operands
