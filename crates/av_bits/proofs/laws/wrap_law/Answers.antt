use Rattle.av_bits.proofs.Values.{wraps_by_multiples}
use Rattle.av_bits.proofs.laws.wrap_law.Goals as goal

pub returns : goal.returns
returns c = wraps_by_multiples
