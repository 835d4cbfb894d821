use Rattle.std.proofs.Common.{◌≡◌, ◌++◌, ◌*◌, ◌^◌, ◌≤◌, length, unsigned_abs}
use Rattle.av_affine.specs.Forms.{scale_opaques}
use Rattle.av_affine.specs.Sizes.{opaques_size}
use Rattle.av_affine.proofs.sums.scale_opaques.Given as goal

abbrev pub invariant-loop-opaque : goal.invariant-loop-opaque
invariant-loop-opaque l = record {
  same : l.scaled ++ scale_opaques l.fn.by l.rest ≡ scale_opaques l.fn.by l.fn.opaques;
  small : opaques_size l.rest * unsigned_abs l.fn.by ≤ 2 ^ 110;
}

abbrev pub decreases-loop-opaque : goal.decreases-loop-opaque
decreases-loop-opaque l = length l.rest
