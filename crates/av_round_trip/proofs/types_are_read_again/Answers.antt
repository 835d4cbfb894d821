use Rattle.av_round_trip.proofs.Types.{types-law}
use Rattle.av_round_trip.proofs.types_are_read_again.Goals as goal

pub returns : goal.returns
returns c = types-law
