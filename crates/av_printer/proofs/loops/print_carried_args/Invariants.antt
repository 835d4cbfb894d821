use Rattle.std.proofs.Common.{◌≡◌, ◌++◌, take}
use Rattle.av_printer.specs.Pieces.{spelt, commas}
use Rattle.av_printer.specs.Operations.{carried}
use Rattle.av_printer.proofs.loops.print_carried_args.Given as goal

abbrev pub invariant-loop-i : goal.invariant-loop-i
invariant-loop-i l = l.out ≡ l.initial.out ++ spelt (commas (carried (take l.i l.args) (take l.i l.values)))
