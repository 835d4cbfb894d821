use Rattle.av_signatures.proofs.Whole.{properties-law}
use Rattle.av_signatures.proofs.laws.properties_differ.Goals as goal

pub returns : goal.returns
returns c = properties-law
