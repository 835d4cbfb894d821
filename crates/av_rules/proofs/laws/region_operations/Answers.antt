use Rattle.av_rules.proofs.ComputedRegions.{region-examples}
use Rattle.av_rules.proofs.laws.region_operations.Goals as goal

pub returns : goal.returns
returns c = region-examples
