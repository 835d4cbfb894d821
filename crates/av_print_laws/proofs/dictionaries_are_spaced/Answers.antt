use Rattle.av_print_laws.proofs.AttrParts.{dictionaries-law}
use Rattle.av_print_laws.proofs.dictionaries_are_spaced.Goals as goal

pub returns : goal.returns
returns c = dictionaries-law
