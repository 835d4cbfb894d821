use Rattle.std.proofs.Common.{◌≡◌, ◌+◌, ◌^◌, ◌≤◌, length}
use Rattle.av_affine.specs.Forms.{add_terms}
use Rattle.av_affine.specs.Sizes.{terms_size}
use Rattle.av_affine.proofs.sums.add_terms.Given as goal

abbrev pub invariant-loop-term : goal.invariant-loop-term
invariant-loop-term l = record {
  same : add_terms l.terms l.rest ≡ add_terms l.fn.terms l.fn.more;
  small : terms_size l.terms + terms_size l.rest ≤ 2 ^ 110;
}

abbrev pub decreases-loop-term : goal.decreases-loop-term
decreases-loop-term l = length l.rest
