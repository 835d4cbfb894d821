use Rattle.av_print_laws.proofs.ExprParts.{map-uses-law}
use Rattle.av_print_laws.proofs.uses_of_maps_are_spaced.Goals as goal

pub returns : goal.returns
returns c = map-uses-law
