use Rattle.std.proofs.Common.{length, ◌-◌, ◌≤◌}
use Rattle.av_lex.specs.Bytes.{Run}
use Rattle.av_lex.proofs.class.run_end.Given as goal

abbrev pub invariant-loop-at : goal.invariant-loop-at
invariant-loop-at l = (l.from ≤ l.at) × (l.at ≤ length l.bytes) × Run l.class l.bytes l.from l.at

abbrev pub decreases-loop-at : goal.decreases-loop-at
decreases-loop-at l = length l.bytes - l.at
