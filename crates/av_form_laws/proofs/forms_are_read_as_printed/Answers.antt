use Rattle.av_form_laws.proofs.Forms.{form-law}
use Rattle.av_form_laws.proofs.forms_are_read_as_printed.Goals as goal

pub returns : goal.returns
returns c = form-law
