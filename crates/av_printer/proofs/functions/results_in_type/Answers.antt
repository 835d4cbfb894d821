use Rattle.std.proofs.Common.{sym}
use Rattle.av_printer.proofs.OperationSteps.{func-other}
use Rattle.av_printer.proofs.functions.results_in_type.Goals as goal

pub returns-in_default : goal.returns-in_default
returns-in_default c = sym (func-other c.args.ty.now c.in_default.not-Func)
