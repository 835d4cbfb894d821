use Rattle.std.proofs.Common.{◌≡◌, ℕ, List, None, map, take}
use Rattle.av_values.proofs.nodes.unwritten.Given as goal

abbrev pub invariant-loop-operand : goal.invariant-loop-operand
invariant-loop-operand l = l.types ≡ map (λ (_ : List ℕ). None) (take l._operand-index l.operands)
