use Rattle.av_flat.proofs.Inside.{inside}
use Rattle.av_flat.proofs.laws.inside_law.Goals as goal

pub returns : goal.returns
returns c = inside
