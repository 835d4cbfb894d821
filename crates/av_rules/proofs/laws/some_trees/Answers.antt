use Rattle.av_rules.proofs.Computed.{rule-examples}
use Rattle.av_rules.proofs.laws.some_trees.Goals as goal

pub returns : goal.returns
returns c = rule-examples
