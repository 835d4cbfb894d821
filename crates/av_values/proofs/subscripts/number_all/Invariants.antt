use Rattle.std.proofs.Common.{◌≡◌, length, reverse}
use Rattle.av_values.specs.Accesses.{numbered_all, turned}
use Rattle.av_values.proofs.Numbered.{behind}
use Rattle.av_values.proofs.subscripts.number_all.Given as goal

abbrev pub decreases-loop-subscript : goal.decreases-loop-subscript
decreases-loop-subscript l = length l.subscripts

abbrev pub invariant-loop-subscript : goal.invariant-loop-subscript
invariant-loop-subscript l =
    behind l.results (numbered_all (reverse l.subscripts) (turned l.leaves)) ≡ numbered_all (reverse l.fn.subscripts) (turned l.fn.leaves)
