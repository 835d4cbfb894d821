use Rattle.av_round_trip.proofs.Example.{example}
use Rattle.av_round_trip.proofs.worked_example.Goals as goal

pub returns : goal.returns
returns c = example
