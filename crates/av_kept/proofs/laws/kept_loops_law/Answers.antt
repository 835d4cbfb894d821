use Rattle.av_kept.proofs.EndAlike.{kept_loops}
use Rattle.av_kept.proofs.laws.kept_loops_law.Goals as goal

pub returns : goal.returns
returns c = kept_loops
