use Rattle.std.proofs.Common.{◌≡◌, ◌++◌, map, take}
use Rattle.av_printer.specs.Pieces.{spelt, commas}
use Rattle.av_printer.specs.Types.{type_pieces}
use Rattle.av_printer.proofs.types.+printing.Given as goal

abbrev pub invariant-print_types_in_brackets-loop-i : goal.invariant-print_types_in_brackets-loop-i
invariant-print_types_in_brackets-loop-i l = l.out ≡ l.initial.out ++ spelt (commas (map type_pieces (take l.i l.types)))
