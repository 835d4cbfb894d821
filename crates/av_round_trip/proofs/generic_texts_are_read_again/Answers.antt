use Rattle.av_round_trip.proofs.Texts.{generic_texts-law}
use Rattle.av_round_trip.proofs.generic_texts_are_read_again.Goals as goal

pub returns : goal.returns
returns c = generic_texts-law
