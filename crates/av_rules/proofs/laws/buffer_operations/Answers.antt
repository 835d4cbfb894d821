use Rattle.av_rules.proofs.ComputedBuffers.{buffer-examples}
use Rattle.av_rules.proofs.laws.buffer_operations.Goals as goal

pub returns : goal.returns
returns c = buffer-examples
