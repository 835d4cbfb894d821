use Rattle.std.proofs.Common.{◌≡◌, [], drop}
use Rattle.av_printer.specs.Dictionaries.{ordered_onto, pointed}
use Rattle.av_printer.proofs.dictionaries.in_order.Given as goal

abbrev pub invariant-loop-entry : goal.invariant-loop-entry
invariant-loop-entry l = ordered_onto (pointed l.ordered.items) (drop l.entry-index l.entries) ≡ ordered_onto [] l.entries
