use Rattle.av_round_trip.proofs.Maps.{maps-law, sets-law}
use Rattle.av_round_trip.proofs.Subscripts.{subscripts-law}
use Rattle.av_round_trip.proofs.Types.{values-law}
use Rattle.av_round_trip.proofs.maps_are_read_again.Goals as goal

pub returns : goal.returns
returns c = (maps-law, sets-law, subscripts-law values-law)
