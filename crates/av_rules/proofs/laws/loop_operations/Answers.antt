use Rattle.av_rules.proofs.ComputedLoops.{loop-examples}
use Rattle.av_rules.proofs.laws.loop_operations.Goals as goal

pub returns : goal.returns
returns c = loop-examples
