use Rattle.av_affine.proofs.Divisions.{floor-law}
use Rattle.av_affine.proofs.laws.floor_rounds_down.Goals as goal

pub returns : goal.returns
returns c = floor-law
