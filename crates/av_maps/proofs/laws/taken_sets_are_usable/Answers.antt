use Rattle.av_maps.proofs.Usable.{usable_set_law}
use Rattle.av_maps.proofs.laws.taken_sets_are_usable.Goals as goal

pub returns : goal.returns
returns c = usable_set_law
