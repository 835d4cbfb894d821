use Rattle.av_print_laws.proofs.TypeParts.{types-law}
use Rattle.av_print_laws.proofs.types_are_spaced.Goals as goal

pub returns : goal.returns
returns c = types-law
