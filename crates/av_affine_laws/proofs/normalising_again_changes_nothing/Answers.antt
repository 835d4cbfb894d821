use Rattle.av_affine_laws.proofs.Normalising.{normalised-twice-law}
use Rattle.av_affine_laws.proofs.normalising_again_changes_nothing.Goals as goal

pub returns : goal.returns
returns c = normalised-twice-law
