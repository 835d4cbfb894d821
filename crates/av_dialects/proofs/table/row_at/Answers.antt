use Rattle.av_dialects.specs.Rows.{forms, modes, names, results, row_count}
use Rattle.av_dialects.proofs.table.row_at.Goals as goal

pub row_in-requires : goal.row_in-requires
unfolding row_count
row_in-requires c = c.requires

pub returns-clause-name : goal.returns-clause-name
unfolding names
returns-clause-name c = c.row_in.ensures.name

pub returns-clause-mode : goal.returns-clause-mode
unfolding modes
returns-clause-mode c = c.row_in.ensures.mode

pub returns-clause-results : goal.returns-clause-results
unfolding results
returns-clause-results c = c.row_in.ensures.results

pub returns-clause-form : goal.returns-clause-form
unfolding forms
returns-clause-form c = c.row_in.ensures.form
