use Rattle.av_bits.proofs.DivisionLaws.{rounds_down_and_up}
use Rattle.av_bits.proofs.laws.rounded_division_law.Goals as goal

pub returns : goal.returns
returns c = rounds_down_and_up
