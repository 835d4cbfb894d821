use Rattle.av_round_trip.proofs.Trees.{generic_trees-law}
use Rattle.av_round_trip.proofs.generic_trees_are_made_again.Goals as goal

pub returns : goal.returns
returns c = generic_trees-law
