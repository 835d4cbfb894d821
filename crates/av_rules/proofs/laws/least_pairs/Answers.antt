use Rattle.av_rules.proofs.Least.{least-law}
use Rattle.av_rules.proofs.laws.least_pairs.Goals as goal

pub returns : goal.returns
returns c = least-law
