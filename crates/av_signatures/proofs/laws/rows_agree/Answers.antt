use Rattle.av_signatures.proofs.Whole.{rows-law}
use Rattle.av_signatures.proofs.laws.rows_agree.Goals as goal

pub returns : goal.returns
returns c = rows-law
