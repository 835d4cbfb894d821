use Rattle.av_rules.proofs.ComputedVectors.{vector-examples}
use Rattle.av_rules.proofs.laws.vector_operations.Goals as goal

pub returns : goal.returns
returns c = vector-examples
