use Rattle.av_signatures.specs.Rows.{demands, marks, operands, properties, roles, row_count, sources}
use Rattle.av_signatures.proofs.table.signature_of.Goals as goal

pub row_in-row-requires : goal.row_in-row-requires
unfolding row_count
row_in-row-requires c = c.requires

pub returns-clause-operands : goal.returns-clause-operands
unfolding operands
returns-clause-operands c = c.row_in-row.ensures.operands

pub returns-clause-source : goal.returns-clause-source
unfolding sources
returns-clause-source c = c.row_in-row.ensures.source

pub returns-clause-properties : goal.returns-clause-properties
unfolding properties
returns-clause-properties c = c.row_in-row.ensures.properties

pub returns-clause-demands : goal.returns-clause-demands
unfolding demands
returns-clause-demands c = c.row_in-row.ensures.demands

pub returns-clause-role : goal.returns-clause-role
unfolding roles
returns-clause-role c = c.row_in-row.ensures.role

pub returns-clause-mark : goal.returns-clause-mark
unfolding marks
returns-clause-mark c = c.row_in-row.ensures.mark
