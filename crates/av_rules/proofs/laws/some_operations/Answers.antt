use Rattle.av_rules.proofs.ComputedRows.{row-examples}
use Rattle.av_rules.proofs.laws.some_operations.Goals as goal

pub returns : goal.returns
returns c = row-examples
