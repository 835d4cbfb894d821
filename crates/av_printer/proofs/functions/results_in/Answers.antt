use Rattle.std.proofs.Common.{sym}
use Rattle.av_printer.proofs.OperationSteps.{results_of-other}
use Rattle.av_printer.proofs.functions.results_in.Goals as goal

pub returns-in_default : goal.returns-in_default
returns-in_default c = sym (results_of-other c.args.attr.now c.in_default.not-Type)
