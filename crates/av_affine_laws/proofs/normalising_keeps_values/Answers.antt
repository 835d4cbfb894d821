use Rattle.av_affine_laws.proofs.Normalising.{normalised-values-law}
use Rattle.av_affine_laws.proofs.normalising_keeps_values.Goals as goal

pub returns : goal.returns
returns c = normalised-values-law
