-- One more read fills the next places.
use Rattle.std.proofs.Common.{◌∙◌, arith}
use Rattle.av_io.proofs.Transfers.{Consumes-more, places_within}
use Rattle.av_io.proofs.whole.read_full.Goals as goal

pub loop-done-preserved : goal.loop-done-preserved
loop-done-preserved g c =
    let (bounded, gave, told, calls, faults) = c.loop-done.invariant in
    let ensured = c.in_ok-count.ensures in
    let done = c.loop-done.done in
    let n = c.in_ok-count.count in (
      places_within c.loop-done.into c.read.new.into done _ n bounded ensured.bound.0,
      Consumes-more _ _ _ c.loop-done.into c.read.new.into done _ n bounded ensured.bound.0 gave ensured.bytes.0,
      ensured.told ∙ told,
      omega (arith, ensured.calls),
      ensured.cause.unchanged ∙ faults,
    )
