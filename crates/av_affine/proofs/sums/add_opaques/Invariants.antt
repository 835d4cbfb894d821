use Rattle.std.proofs.Common.{◌≡◌, ◌+◌, ◌^◌, ◌≤◌, length}
use Rattle.av_affine.specs.Forms.{add_opaques}
use Rattle.av_affine.specs.Sizes.{opaques_size}
use Rattle.av_affine.proofs.sums.add_opaques.Given as goal

abbrev pub invariant-loop-opaque : goal.invariant-loop-opaque
invariant-loop-opaque l = record {
  same : add_opaques l.opaques l.rest ≡ add_opaques l.fn.opaques l.fn.more;
  small : opaques_size l.opaques + opaques_size l.rest ≤ 2 ^ 110;
}

abbrev pub decreases-loop-opaque : goal.decreases-loop-opaque
decreases-loop-opaque l = length l.rest
