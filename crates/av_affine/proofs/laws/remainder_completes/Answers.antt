use Rattle.av_affine.proofs.Divisions.{remainder-law}
use Rattle.av_affine.proofs.laws.remainder_completes.Goals as goal

pub returns : goal.returns
returns c = remainder-law
