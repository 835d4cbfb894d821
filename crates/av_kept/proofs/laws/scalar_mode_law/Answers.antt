use Rattle.av_kept.proofs.Kept.{scalar_module}
use Rattle.av_kept.proofs.laws.scalar_mode_law.Goals as goal

pub returns : goal.returns
returns c = scalar_module
