use Rattle.av_signatures.proofs.Whole.{keys-law}
use Rattle.av_signatures.proofs.laws.keys_are_properties.Goals as goal

pub returns : goal.returns
returns c = keys-law
