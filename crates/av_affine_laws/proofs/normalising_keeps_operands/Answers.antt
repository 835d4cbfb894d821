use Rattle.av_affine_laws.proofs.Normalising.{normalised-operands-law}
use Rattle.av_affine_laws.proofs.normalising_keeps_operands.Goals as goal

pub returns : goal.returns
returns c = normalised-operands-law
