use Rattle.av_dialects.specs.Rows.{forms}
use Rattle.av_dialects.proofs.table.form_of.Goals as goal

pub returns : goal.returns
unfolding forms
returns c = c.form_in.ensures
