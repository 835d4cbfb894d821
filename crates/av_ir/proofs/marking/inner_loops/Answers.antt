use Rattle.std.proofs.Common.{◌++◌, ap, ◌∙◌, drop}
use Rattle.av_ir.specs.Marks.{inner_among}
use Rattle.av_ir.proofs.InnerLoops.{one_more_func}
use Rattle.av_ir.proofs.marking.inner_loops.Goals as goal

pub loop-place-preserved : goal.loop-place-preserved
loop-place-preserved c =
    one_more_func c.as_slice-func-items.result.now c.loop-place.place c.func-item.result c.loop-place.flags c.flag_ops.new.flags c.as_slice.result.now
    c.loop-place.inner c.push_inner.new.inner c.len-first.result c.loop-place-test.true c.func-item.is c.as_slice.ensures c.in_ok-flag_ops.ensures
    c.len-first.ensures
    (c.in_ok-push_inner.ensures ∙ ap (λ l. c.loop-place.inner ++ inner_among c.loop-place.place c.len-first.result (drop c.len-first.result l)) c.as_slice-in-loop-place.ensures)
    c.loop-place.invariant
