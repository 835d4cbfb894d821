use Rattle.std.proofs.Common.{◌≡◌, ◌++◌, map, take}
use Rattle.av_printer.specs.Pieces.{spelt, commas}
use Rattle.av_printer.specs.Attributes.{element_pieces}
use Rattle.av_printer.proofs.attributes.+elements.Given as goal

abbrev pub invariant-print_elements-loop-i : goal.invariant-print_elements-loop-i
invariant-print_elements-loop-i l = l.out ≡ l.initial.out ++ spelt (commas (map element_pieces (take l.i l.items)))
