use Rattle.av_bits.proofs.DivisionLaws.{divides_unsigned}
use Rattle.av_bits.proofs.laws.unsigned_division_law.Goals as goal

pub returns : goal.returns
returns c = divides_unsigned
