use Rattle.av_rules.proofs.ComputedEdges.{edge-examples}
use Rattle.av_rules.proofs.laws.some_edges.Goals as goal

pub returns : goal.returns
returns c = edge-examples
