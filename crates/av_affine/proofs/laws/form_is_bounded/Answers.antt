use Rattle.av_affine.proofs.Sizes.{parts-size}
use Rattle.av_affine.proofs.laws.form_is_bounded.Goals as goal

pub returns : goal.returns
returns c = parts-size
