use Rattle.av_print_laws.proofs.ExprParts.{sets-law}
use Rattle.av_print_laws.proofs.sets_are_spaced.Goals as goal

pub returns : goal.returns
returns c = sets-law
