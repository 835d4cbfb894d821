use Rattle.av_affine_laws.proofs.Normalising.{normal-is-applied-law}
use Rattle.av_affine_laws.proofs.normal_maps_are_applied.Goals as goal

pub returns : goal.returns
returns c = normal-is-applied-law
