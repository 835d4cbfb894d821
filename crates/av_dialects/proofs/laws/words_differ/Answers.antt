use Rattle.av_dialects.proofs.Whole.{words-law}
use Rattle.av_dialects.proofs.laws.words_differ.Goals as goal

pub returns : goal.returns
returns c = words-law
