use Rattle.av_form_laws.proofs.Reading.{reading-law}
use Rattle.av_form_laws.proofs.forms_make_what_rows_make.Goals as goal

pub returns : goal.returns
returns c = reading-law
