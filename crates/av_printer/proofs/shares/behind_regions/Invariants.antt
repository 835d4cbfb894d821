use Rattle.std.proofs.Common.{◌≡◌, drop}
use Rattle.av_printer.specs.Parts.{behind_seen, behind_regions}
use Rattle.av_printer.proofs.shares.behind_regions.Given as goal

abbrev pub invariant-loop-i : goal.invariant-loop-i
invariant-loop-i l = behind_regions l.parts ≡ behind_seen l.seen (drop l.i l.parts)
