use Rattle.av_program_laws.proofs.AgainWholes.{read_again}
use Rattle.av_program_laws.proofs.laws.read_law.Goals as goal

pub returns : goal.returns
returns c = read_again
