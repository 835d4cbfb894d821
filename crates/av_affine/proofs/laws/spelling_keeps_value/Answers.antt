use Rattle.av_affine.proofs.Spellings.{spelling-law}
use Rattle.av_affine.proofs.laws.spelling_keeps_value.Goals as goal

pub returns : goal.returns
returns c = spelling-law
