use Rattle.av_verify.proofs.Smallest.{smallest-code-law}
use Rattle.av_verify.proofs.laws.smallest_code_law.Goals as goal

pub returns : goal.returns
returns c = smallest-code-law
