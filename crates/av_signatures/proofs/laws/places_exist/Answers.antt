use Rattle.av_signatures.proofs.Whole.{places-law}
use Rattle.av_signatures.proofs.laws.places_exist.Goals as goal

pub returns : goal.returns
returns c = places-law
