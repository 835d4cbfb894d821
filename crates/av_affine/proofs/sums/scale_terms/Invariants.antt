use Rattle.std.proofs.Common.{◌≡◌, ◌++◌, ◌*◌, ◌^◌, ◌≤◌, length, unsigned_abs}
use Rattle.av_affine.specs.Forms.{scale_terms}
use Rattle.av_affine.specs.Sizes.{terms_size}
use Rattle.av_affine.proofs.sums.scale_terms.Given as goal

abbrev pub invariant-loop-term : goal.invariant-loop-term
invariant-loop-term l = record {
  same : l.scaled ++ scale_terms l.fn.by l.rest ≡ scale_terms l.fn.by l.fn.terms;
  small : terms_size l.rest * unsigned_abs l.fn.by ≤ 2 ^ 110;
}

abbrev pub decreases-loop-term : goal.decreases-loop-term
decreases-loop-term l = length l.rest
