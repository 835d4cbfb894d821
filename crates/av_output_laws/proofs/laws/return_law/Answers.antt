use Rattle.av_output_laws.proofs.Returned.{return_law}
use Rattle.av_output_laws.proofs.laws.return_law.Goals as goal

pub returns : goal.returns
returns c = return_law
