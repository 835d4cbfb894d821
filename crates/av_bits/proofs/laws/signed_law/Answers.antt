use Rattle.av_bits.proofs.Values.{patterns_and_values}
use Rattle.av_bits.proofs.laws.signed_law.Goals as goal

pub returns : goal.returns
returns c = patterns_and_values
