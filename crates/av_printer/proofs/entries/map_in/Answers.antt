use Rattle.std.proofs.Common.{sym}
use Rattle.av_printer.proofs.OperationSteps.{map_of-other}
use Rattle.av_printer.proofs.entries.map_in.Goals as goal

pub returns-in_default : goal.returns-in_default
returns-in_default c = sym (map_of-other c.args.attr.now c.in_default.not-Map)
