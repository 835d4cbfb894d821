use Rattle.av_read_laws.proofs.Again.{reading-law}
use Rattle.av_read_laws.proofs.laws.reading_law.Goals as goal

pub returns : goal.returns
returns c = reading-law
