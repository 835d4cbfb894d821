use Rattle.av_affine_laws.proofs.Normalising.{normalised-is-normal-law}
use Rattle.av_affine_laws.proofs.normalised_maps_are_normal.Goals as goal

pub returns : goal.returns
returns c = normalised-is-normal-law
