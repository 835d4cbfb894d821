use Rattle.av_affine_laws.proofs.Renamed.{normalised-limits-law}
use Rattle.av_affine_laws.proofs.normalising_keeps_limits.Goals as goal

pub returns : goal.returns
returns c = normalised-limits-law
