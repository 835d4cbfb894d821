use Rattle.av_dialects.specs.Rows.{names, row_count}
use Rattle.av_dialects.proofs.Names.{number-found}
use Rattle.av_dialects.proofs.table.row_of.Goals as goal

pub returns-clause-found : goal.returns-clause-found
unfolding names
returns-clause-found c = c.number_in.ensures.found

pub returns-clause-within : goal.returns-clause-within
unfolding row_count
returns-clause-within c = c.number_in.ensures.within

pub returns-clause-number : goal.returns-clause-number
unfolding names
returns-clause-number c = number-found c.args.name.now c.number_in.result c.number_in.ensures.found
