use Rattle.av_affine.proofs.Divisions.{ceil-law}
use Rattle.av_affine.proofs.laws.ceil_rounds_up.Goals as goal

pub returns : goal.returns
returns c = ceil-law
