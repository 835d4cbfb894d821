use Rattle.av_program_laws.proofs.TakenWholes.{taken_law}
use Rattle.av_program_laws.proofs.laws.taken_law.Goals as goal

pub returns : goal.returns
returns c = taken_law
