use Rattle.std.proofs.Common.{◌≡◌, ◌++◌, drop}
use Rattle.av_top.specs.Report.{lines_of}
use Rattle.av_top.proofs.report.report_of.Given as goal

abbrev pub invariant-loop-inner : goal.invariant-loop-inner
invariant-loop-inner l = l.report.items ++ lines_of l.funcs (drop l.inner-index l.loops) ≡ lines_of l.funcs l.loops
