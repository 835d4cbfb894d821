use Rattle.std.proofs.Common.{sym}
use Rattle.av_printer.proofs.PartSteps.{size-other}
use Rattle.av_printer.proofs.shares.size_in.Goals as goal

pub returns-in_default : goal.returns-in_default
returns-in_default c = sym (size-other c.args.counted c.args.attr.now c.in_default.not-Map c.in_default.not-AliasUse)
