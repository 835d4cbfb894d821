use Rattle.av_print_laws.proofs.NodeParts.{trees-law}
use Rattle.av_print_laws.proofs.trees_are_spaced.Goals as goal

pub returns : goal.returns
returns c = trees-law
