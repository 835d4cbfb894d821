use Rattle.av_output_laws.proofs.PlacesInWalks.{places}
use Rattle.av_output_laws.proofs.laws.places_law.Goals as goal

pub returns : goal.returns
returns c = places
