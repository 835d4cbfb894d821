use Rattle.av_output_laws.proofs.Reread.{reread}
use Rattle.av_output_laws.proofs.laws.words_are_read.Goals as goal

pub returns : goal.returns
returns c = reread
