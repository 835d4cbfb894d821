use Rattle.av_maps.proofs.OwnPlaces.{own_numbers_law}
use Rattle.av_maps.proofs.laws.parameters_have_their_numbers.Goals as goal

pub returns : goal.returns
returns c = own_numbers_law
