-- each call goes one size further in
use Rattle.std.proofs.Common.{length}
use Rattle.av_types.proofs.relations.+stretch.Given as goal

abbrev pub decreases-stretch : goal.decreases-stretch
decreases-stretch l = length l.sizes.now
