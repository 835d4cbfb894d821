use Rattle.std.proofs.Common.{vec_len}
use Rattle.av_reader.proofs.Worked.{Worked}
use Rattle.av_reader.proofs.building.build.Given as goal

abbrev pub invariant-loop-event : goal.invariant-loop-event
invariant-loop-event l = Worked l.bytes l.tokens l.fn.events.items l.events.items l.stack

abbrev pub decreases-loop-event : goal.decreases-loop-event
decreases-loop-event l = vec_len l.events
