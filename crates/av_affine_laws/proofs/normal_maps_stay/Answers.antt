use Rattle.av_affine_laws.proofs.Normalising.{normal-stays-law}
use Rattle.av_affine_laws.proofs.normal_maps_stay.Goals as goal

pub returns : goal.returns
returns c = normal-stays-law
