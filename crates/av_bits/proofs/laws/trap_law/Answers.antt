use Rattle.av_bits.proofs.DivisionLaws.{traps_where}
use Rattle.av_bits.proofs.laws.trap_law.Goals as goal

pub returns : goal.returns
returns c = traps_where
