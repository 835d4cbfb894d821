use Rattle.av_affine.proofs.ExprForms.{form-value-law}
use Rattle.av_affine.proofs.laws.form_keeps_value.Goals as goal

pub returns : goal.returns
returns c = form-value-law
