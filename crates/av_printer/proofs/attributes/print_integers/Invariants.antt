use Rattle.std.proofs.Common.{◌≡◌, ◌++◌, map, take}
use Rattle.av_printer.specs.Pieces.{spelt, commas}
use Rattle.av_printer.specs.Expressions.{number}
use Rattle.av_printer.proofs.attributes.print_integers.Given as goal

abbrev pub invariant-loop-i : goal.invariant-loop-i
invariant-loop-i l = l.out ≡ l.fn.out ++ spelt (commas (map number (take l.i l.numbers)))
