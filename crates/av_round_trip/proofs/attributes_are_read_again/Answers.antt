use Rattle.av_round_trip.proofs.Attributes.{attributes-law}
use Rattle.av_round_trip.proofs.Maps.{maps-law, sets-law}
use Rattle.av_round_trip.proofs.Types.{integers-law, many_types-law, result_types-law, types-law}
use Rattle.av_round_trip.proofs.attributes_are_read_again.Goals as goal

pub returns : goal.returns
returns c = attributes-law types-law many_types-law result_types-law integers-law maps-law sets-law
