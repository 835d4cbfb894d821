use Rattle.av_bits.proofs.KindLaws.{kinds_combine}
use Rattle.av_bits.proofs.laws.kind_law.Goals as goal

pub returns : goal.returns
returns c = kinds_combine
