use Rattle.av_program_laws.proofs.laws.printed_law.Goals as goal
use Rattle.av_program_laws.proofs.PrintedForms.{printed}

pub returns : goal.returns
returns c = printed
