use Rattle.av_print_laws.proofs.InOrder.{ordered-entries-law}
use Rattle.av_print_laws.proofs.entries_are_ordered.Goals as goal

pub returns : goal.returns
returns c = ordered-entries-law
