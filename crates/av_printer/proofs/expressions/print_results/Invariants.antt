use Rattle.std.proofs.Common.{◌≡◌, ◌++◌, map, take}
use Rattle.av_printer.specs.Pieces.{spelt, commas, plain}
use Rattle.av_printer.specs.Expressions.{expression}
use Rattle.av_printer.proofs.expressions.print_results.Given as goal

abbrev pub invariant-loop-i : goal.invariant-loop-i
invariant-loop-i l = l.out ≡ l.initial.out ++ spelt (commas (map (expression plain) (take l.i l.results)))
