use Rattle.av_kept.proofs.Kept.{formed_module}
use Rattle.av_kept.proofs.laws.well_formed_law.Goals as goal

pub returns : goal.returns
returns c = formed_module
