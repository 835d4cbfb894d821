use Rattle.av_rules.proofs.ComputedTable.{table-examples}
use Rattle.av_rules.proofs.laws.every_row.Goals as goal

pub returns : goal.returns
returns c = table-examples
