use Rattle.av_affine_laws.proofs.Spelt.{spelling-form-law}
use Rattle.av_affine_laws.proofs.spelling_keeps_form.Goals as goal

pub returns : goal.returns
returns c = spelling-form-law
