use Rattle.av_affine_laws.proofs.Made.{normal-form-law}
use Rattle.av_affine_laws.proofs.forms_are_normal.Goals as goal

pub returns : goal.returns
returns c = normal-form-law
