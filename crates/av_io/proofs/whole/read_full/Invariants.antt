use Rattle.std.proofs.Common.{length, ◌+◌, ◌-◌, ◌≡◌, ◌≤◌, take, is_some}
use Rattle.std.specs.Io.KnownBytes.{Consumes}
use Rattle.av_io.proofs.whole.read_full.Given as goal

abbrev pub invariant-loop-done : goal.invariant-loop-done
invariant-loop-done g l =
    let source = g.I.Source in
    (l.done ≤ length l.into)
    × Consumes (source.left l.initial.from) (source.left l.from) (take l.done l.into)
    × (is_some (source.left l.from) ≡ is_some (source.left l.initial.from))
    × (source.calls l.from ≤ source.calls l.initial.from + l.done)
    × (source.faults l.from ≡ source.faults l.initial.from)

abbrev pub decreases-loop-done : goal.decreases-loop-done
decreases-loop-done g l = length l.initial.into - l.done
