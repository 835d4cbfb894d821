use Rattle.std.proofs.Common.{length}
use Rattle.av_operations.proofs.operation.+made_of.Given as goal

abbrev pub decreases-made_of : goal.decreases-made_of
decreases-made_of l = length l.parts.now
