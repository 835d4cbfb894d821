use Rattle.std.proofs.Common.{◌≡◌, drop}
use Rattle.av_printer.specs.Expressions.{placed}
use Rattle.av_printer.proofs.subscripts.value_of.Given as goal

abbrev pub invariant-loop-i : goal.invariant-loop-i
invariant-loop-i l = placed (drop l.i l.parameters) (drop l.i l.values) l.name ≡ placed l.parameters l.values l.name
