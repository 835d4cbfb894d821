use Rattle.av_round_trip.proofs.Expressions.{expressions-law}
use Rattle.av_round_trip.proofs.expressions_are_read_again.Goals as goal

pub returns : goal.returns
returns c = expressions-law
