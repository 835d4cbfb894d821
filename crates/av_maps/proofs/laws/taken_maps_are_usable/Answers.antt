use Rattle.av_maps.proofs.Usable.{usable_map_law}
use Rattle.av_maps.proofs.laws.taken_maps_are_usable.Goals as goal

pub returns : goal.returns
returns c = usable_map_law
