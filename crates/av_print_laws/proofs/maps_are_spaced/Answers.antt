use Rattle.av_print_laws.proofs.ExprParts.{maps-law}
use Rattle.av_print_laws.proofs.maps_are_spaced.Goals as goal

pub returns : goal.returns
returns c = maps-law
