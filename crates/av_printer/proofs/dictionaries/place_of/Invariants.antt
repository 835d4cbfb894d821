use Rattle.std.proofs.Common.{◌≡◌, ◌++◌, take, drop}
use Rattle.av_printer.specs.Dictionaries.{inserted, pointed}
use Rattle.av_printer.proofs.dictionaries.place_of.Given as goal

abbrev pub invariant-loop-i : goal.invariant-loop-i
invariant-loop-i l =
    take l.i (pointed l.ordered) ++ inserted l.entry (drop l.i (pointed l.ordered)) ≡ inserted l.entry (pointed l.ordered)
