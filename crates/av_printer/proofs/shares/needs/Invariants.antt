use Rattle.std.proofs.Common.{◌≡◌, ◌+◌, ◌≤◌, drop}
use Rattle.av_dialects.specs.Types.{needs}
use Rattle.av_printer.proofs.shares.needs.Given as goal

-- counted so far, with what the other parts need
abbrev pub invariant-loop-part : goal.invariant-loop-part
invariant-loop-part l = (l.count + needs (drop l.part-index l.parts) ≡ needs l.parts) × (l.count ≤ l.part-index)
