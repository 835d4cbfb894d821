-- each call goes one size further in
use Rattle.std.proofs.Common.{length}
use Rattle.av_verify.proofs.types.+are_extents.Given as goal

abbrev pub decreases-are_extents : goal.decreases-are_extents
decreases-are_extents l = length l.sizes.now
