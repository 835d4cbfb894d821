use Rattle.std.proofs.Common.{◌≡◌, ◌++◌, map, take}
use Rattle.av_printer.specs.Pieces.{spelt, commas}
use Rattle.av_printer.specs.Attributes.{attribute, entry_pieces}
use Rattle.av_printer.proofs.attributes.+attributing.Given as goal

abbrev pub invariant-print_list-loop-i : goal.invariant-print_list-loop-i
invariant-print_list-loop-i l = l.out ≡ l.initial.out ++ spelt (commas (map attribute (take l.i l.items)))

abbrev pub invariant-print_entries-loop-i : goal.invariant-print_entries-loop-i
invariant-print_entries-loop-i l = l.out ≡ l.initial.out ++ spelt (commas (map entry_pieces (take l.i l.entries)))
