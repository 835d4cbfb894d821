use Rattle.av_flat.proofs.Untouched.{untouched}
use Rattle.av_flat.proofs.laws.untouched_law.Goals as goal

pub returns : goal.returns
returns c = untouched
