use Rattle.av_print_laws.proofs.AttrParts.{attributes-law}
use Rattle.av_print_laws.proofs.attributes_are_spaced.Goals as goal

pub returns : goal.returns
returns c = attributes-law
