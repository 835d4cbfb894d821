use Rattle.av_values.specs.Nodes.{plain}
use Rattle.av_values.proofs.nodes.plain_node.Goals as goal

pub returns : goal.returns
unfolding plain
returns c = cc
