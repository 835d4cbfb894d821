use Rattle.av_print_laws.proofs.Parts.{parts-law}
use Rattle.av_print_laws.proofs.spacing_goes_by_parts.Goals as goal

pub returns : goal.returns
returns c = parts-law
