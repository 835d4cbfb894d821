use Rattle.std.proofs.Common.{◌≡◌, drop}
use Rattle.av_printer.specs.Operations.{property}
use Rattle.av_printer.proofs.entries.property.Given as goal

abbrev pub invariant-loop-entry : goal.invariant-loop-entry
invariant-loop-entry l = property (drop l.entry-index l.entries) l.name ≡ property l.entries l.name
