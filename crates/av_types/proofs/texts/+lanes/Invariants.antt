-- each call goes one dimension further in
use Rattle.std.proofs.Common.{length}
use Rattle.av_types.proofs.texts.+lanes.Given as goal

abbrev pub decreases-lanes : goal.decreases-lanes
decreases-lanes l = length l.dims.now
