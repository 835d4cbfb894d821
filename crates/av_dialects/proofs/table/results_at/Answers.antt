use Rattle.av_dialects.specs.Rows.{results}
use Rattle.av_dialects.proofs.table.results_at.Goals as goal

pub returns : goal.returns
unfolding results
returns c = c.results_in.ensures
