use Rattle.av_maps.proofs.Meanings.{meaning_law}
use Rattle.av_maps.proofs.laws.written_expressions_keep_meaning.Goals as goal

pub returns : goal.returns
returns c = meaning_law
