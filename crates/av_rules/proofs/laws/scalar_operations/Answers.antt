use Rattle.av_rules.proofs.ComputedScalars.{scalar-examples}
use Rattle.av_rules.proofs.laws.scalar_operations.Goals as goal

pub returns : goal.returns
returns c = scalar-examples
