use Rattle.av_affine_laws.proofs.Renamed.{renamed-limits-law}
use Rattle.av_affine_laws.proofs.renaming_keeps_limits.Goals as goal

pub returns : goal.returns
returns c = renamed-limits-law
