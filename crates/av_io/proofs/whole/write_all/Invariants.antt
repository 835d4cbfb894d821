use Rattle.std.proofs.Common.{length, ◌-◌, ◌≡◌, ◌≤◌, take, is_some}
use Rattle.av_io.specs.Devices.{HasRoom, Takes}
use Rattle.av_io.proofs.whole.write_all.Given as goal

abbrev pub invariant-loop-done : goal.invariant-loop-done
invariant-loop-done g l =
    let sink = g.O.Sink in
    (l.done ≤ length l.bytes)
    × Takes (sink.held l.initial.to) (sink.held l.to) (sink.room l.initial.to) (sink.room l.to) (take l.done l.bytes)
    × HasRoom (sink.room l.to) (length l.bytes - l.done)
    × (is_some (sink.held l.to) ≡ is_some (sink.held l.initial.to))
    × (sink.faults l.to ≡ sink.faults l.initial.to)

abbrev pub decreases-loop-done : goal.decreases-loop-done
decreases-loop-done g l = length l.bytes - l.done
