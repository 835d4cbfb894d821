use Rattle.av_round_trip.proofs.Fewest.{fewest-brackets-law, needed-brackets-law}
use Rattle.av_round_trip.proofs.brackets_are_needed.Goals as goal

pub returns : goal.returns
returns c = (fewest-brackets-law, needed-brackets-law)
