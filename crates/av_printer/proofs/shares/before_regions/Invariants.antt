use Rattle.std.proofs.Common.{◌≡◌, ◌++◌, drop, take}
use Rattle.av_printer.specs.Parts.{before_regions}
use Rattle.av_printer.proofs.shares.before_regions.Given as goal

abbrev pub invariant-loop-i : goal.invariant-loop-i
invariant-loop-i l = before_regions l.parts ≡ take l.i l.parts ++ before_regions (drop l.i l.parts)
