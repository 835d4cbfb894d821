use Rattle.std.proofs.Common.{◌≡◌, ◌++◌, map, take}
use Rattle.av_printer.specs.Pieces.{spelt, commas}
use Rattle.av_printer.specs.Attributes.{entry_pieces}
use Rattle.av_printer.specs.Dictionaries.{pointed}
use Rattle.av_printer.proofs.dictionaries.print_ordered.Given as goal

abbrev pub invariant-loop-i : goal.invariant-loop-i
invariant-loop-i l = l.out ≡ l.fn.out ++ spelt (commas (map entry_pieces (take l.i (pointed l.entries))))
