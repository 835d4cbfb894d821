use Rattle.std.proofs.Common.{length, ap, ◌∙◌}
use Rattle.av_ir.specs.declared.module.Op.{out-Op}
use Rattle.av_ir.specs.Marks.{marks_of, marked_op, marked_region}
use Rattle.av_ir.proofs.MadeParts.{op_made, op_counted, region_made, region_counted}
use Rattle.av_ir.proofs.Turns.{made_more, made_all, counted_all}
use Rattle.av_ir.proofs.marking.+marking.Goals as goal

pub mark_op-returns-clause-made : goal.mark_op-returns-clause-made
mark_op-returns-clause-made t c =
    op_made c.args.op.now (length c.args.loops.now) c.as_slice.result.now (length c.count_loop.new.loops) c.as_slice.ensures c.in_ok-count_loop.ensures
    _ _ _ _ _ c.in_ok-duplicate.ensures c.in_ok-duplicate-2.ensures c.in_ok-duplicate-3.ensures c.in_ok-regions.ensures.made
    (c.marks_of-marks.ensures ∙ ap (λ n. marks_of (out-Op c.args.op.now).kind n (out-Op c.args.op.now).number (out-Op c.args.op.now).marks.distinct) c.len.ensures)

pub mark_op-returns-clause-count : goal.mark_op-returns-clause-count
mark_op-returns-clause-count t c =
    op_counted c.args.op.now (length c.args.loops.now) c.as_slice.result.now (length c.count_loop.new.loops) c.as_slice.ensures c.in_ok-count_loop.ensures
    _ c.in_ok-regions.ensures.count

pub mark_ops-loop-op-preserved : goal.mark_ops-loop-op-preserved
mark_ops-loop-op-preserved t c =
    made_more marked_op c.args.ops.now (length c.args.loops.now) c.loop-op.op-index c.op-item.result c.loop-op.copies c.push.new.self
    c.in_ok-mark_op.field-0 (length c.loop-op.loops) (length c.mark_op.new.loops)
    c.loop-op-test.true c.op-item.is c.in_ok-mark_op.ensures.made c.in_ok-mark_op.ensures.count c.in_ok-push.ensures.ok c.loop-op.invariant

pub mark_ops-returns-clause-made : goal.mark_ops-returns-clause-made
mark_ops-returns-clause-made t c = made_all _ _ _ c.loop-op.op-index _ _ c.loop-op-test.false c.loop-op.invariant

pub mark_ops-returns-clause-count : goal.mark_ops-returns-clause-count
mark_ops-returns-clause-count t c = counted_all _ _ _ c.loop-op.op-index _ _ c.loop-op-test.false c.loop-op.invariant

pub mark_region-returns-clause-made : goal.mark_region-returns-clause-made
mark_region-returns-clause-made t c =
    region_made c.args.region.now (length c.args.loops.now) c.as_slice.result.now c.as_slice.ensures
    _ _ c.in_ok-duplicate.ensures c.in_ok-mark_ops.ensures.made

pub mark_region-returns-clause-count : goal.mark_region-returns-clause-count
mark_region-returns-clause-count t c =
    region_counted c.args.region.now (length c.args.loops.now) c.as_slice.result.now c.as_slice.ensures _ c.in_ok-mark_ops.ensures.count

pub mark_regions-loop-region-preserved : goal.mark_regions-loop-region-preserved
mark_regions-loop-region-preserved t c =
    made_more marked_region c.args.regions.now (length c.args.loops.now) c.loop-region.region-index c.region-item.result c.loop-region.copies c.push.new.self
    c.in_ok-mark_region.field-0 (length c.loop-region.loops) (length c.mark_region.new.loops)
    c.loop-region-test.true c.region-item.is c.in_ok-mark_region.ensures.made c.in_ok-mark_region.ensures.count c.in_ok-push.ensures.ok c.loop-region.invariant

pub mark_regions-returns-clause-made : goal.mark_regions-returns-clause-made
mark_regions-returns-clause-made t c = made_all _ _ _ c.loop-region.region-index _ _ c.loop-region-test.false c.loop-region.invariant

pub mark_regions-returns-clause-count : goal.mark_regions-returns-clause-count
mark_regions-returns-clause-count t c = counted_all _ _ _ c.loop-region.region-index _ _ c.loop-region-test.false c.loop-region.invariant
