use Rattle.av_dialects.proofs.Whole.{ends-law}
use Rattle.av_dialects.proofs.laws.parts_end_plainly.Goals as goal

pub returns : goal.returns
returns c = ends-law
