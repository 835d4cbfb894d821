use Rattle.av_bits.proofs.DivisionLaws.{divides_toward_zero}
use Rattle.av_bits.proofs.laws.signed_division_law.Goals as goal

pub returns : goal.returns
returns c = divides_toward_zero
