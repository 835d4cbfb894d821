use Rattle.av_form_laws.proofs.Reading.{row-law}
use Rattle.av_form_laws.proofs.rows_make_what_fits.Goals as goal

pub returns : goal.returns
returns c = row-law
