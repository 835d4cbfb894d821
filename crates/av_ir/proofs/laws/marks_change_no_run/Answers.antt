use Rattle.av_ir.proofs.MarkedLevels.{same_op, same_region, funcs_alike}
use Rattle.av_ir.proofs.laws.marks_change_no_run.Goals as goal

pub returns-clause-op : goal.returns-clause-op
returns-clause-op c = same_op

pub returns-clause-region : goal.returns-clause-region
returns-clause-region c = same_region

pub returns-clause-module : goal.returns-clause-module
returns-clause-module c = λ work m args. funcs_alike work args m.funcs 0
