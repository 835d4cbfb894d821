use Rattle.std.proofs.Common.{sym}
use Rattle.av_printer.proofs.PartSteps.{counted-other}
use Rattle.av_printer.proofs.shares.counted_in.Goals as goal

pub returns-in_default : goal.returns-in_default
returns-in_default c = sym (counted-other c.args.place c.args.attr.now c.in_default.not-Array)
