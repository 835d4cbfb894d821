use Rattle.std.proofs.Common.{sym}
use Rattle.av_printer.proofs.OperationSteps.{step-other}
use Rattle.av_printer.proofs.loops.step_in.Goals as goal

pub returns-in_default : goal.returns-in_default
returns-in_default c = sym (step-other c.args.attr.now c.in_default.not-Number)
