use Rattle.av_flat.proofs.Agreement.{flat_is_scalar}
use Rattle.av_flat.proofs.laws.scalar_law.Goals as goal

pub returns : goal.returns
returns c = flat_is_scalar
