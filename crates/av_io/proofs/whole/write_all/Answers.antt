-- One more write takes the next bytes, and leaves room for the rest.
use Rattle.std.proofs.Common.{◌+◌, ◌-◌, ◌≤◌, length, ap, ◌∙◌, arith, length-drop}
use Rattle.std.proofs.lemmas.List.{take_rest}
use Rattle.av_io.proofs.Transfers.{HasRoom-less, HasRoom-used, Takes-more}
use Rattle.av_io.proofs.whole.write_all.Goals as goal

pub loop-done-preserved : goal.loop-done-preserved
loop-done-preserved g c =
    let (bounded, took, room, told, faults) = c.loop-done.invariant in
    let bytes = c.args.bytes.now in
    let done = c.loop-done.done in
    let n = c.in_ok-done.field-0 in
    let ensured = c.in_ok-done.ensures in
    let within : n ≤ length bytes - done = omega (arith, ensured.bound, ap length (take_rest bytes done), length-drop done bytes) in (
      omega arith,
      Takes-more _ _ _ _ _ _ bytes done n within took ensured.bytes ensured.room,
      HasRoom-used _ _ n (length bytes - (done + n)) ensured.room (HasRoom-less _ _ _ room (omega arith)),
      ensured.told ∙ told,
      ensured.cause.unchanged ∙ faults,
    )
