use Rattle.av_maps.proofs.Usable.{normal_use_law}
use Rattle.av_maps.proofs.laws.normal_uses_are_normal.Goals as goal

pub returns : goal.returns
returns c = normal_use_law
