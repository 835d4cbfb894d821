use Rattle.std.proofs.Common.{◌≡◌, length, reverse}
use Rattle.av_values.specs.Loops.{with_pairs, carried_lists}
use Rattle.av_values.proofs.loops.paired.Given as goal

abbrev pub decreases-loop-ty : goal.decreases-loop-ty
decreases-loop-ty l = length l.types

abbrev pub invariant-loop-ty : goal.invariant-loop-ty
invariant-loop-ty l = with_pairs l.lists (reverse l.pairs) (reverse l.types) ≡ carried_lists (reverse l.fn.pairs) l.fn.types
