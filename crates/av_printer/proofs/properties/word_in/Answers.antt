use Rattle.std.proofs.Common.{sym}
use Rattle.av_printer.proofs.PartSteps.{word-other}
use Rattle.av_printer.proofs.properties.word_in.Goals as goal

pub returns-in_default : goal.returns-in_default
returns-in_default c = sym (word-other c.args.attr.now c.in_default.not-Number)
