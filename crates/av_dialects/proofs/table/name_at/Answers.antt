use Rattle.av_dialects.specs.Rows.{names}
use Rattle.av_dialects.proofs.table.name_at.Goals as goal

pub returns : goal.returns
unfolding names
returns c = c.name_in.ensures
