use Rattle.av_program_laws.proofs.MadeModules.{tree_made}
use Rattle.av_program_laws.proofs.laws.written_law.Goals as goal

pub returns : goal.returns
returns c = tree_made
