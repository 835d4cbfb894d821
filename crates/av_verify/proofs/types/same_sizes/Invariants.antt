-- what is left to compare decides
use Rattle.std.proofs.Common.{◌≡◌, drop}
use Rattle.std.specs.Cmp.Lexicographic.{pointwise}
use Rattle.av_verify.specs.Types.{same_size}
use Rattle.av_verify.proofs.types.same_sizes.Given as goal

abbrev pub invariant-loop-at : goal.invariant-loop-at
invariant-loop-at l = pointwise same_size (drop l.at l.a) (drop l.at l.b) ≡ pointwise same_size l.a l.b
