use Rattle.std.proofs.Common.{ap, ◌∙◌, sym, refl, arith}
use Rattle.std.proofs.lemmas.Result.{on_ok_weaker}
use Rattle.std.specs.List.{flat_map}
use Rattle.av_ir.specs.Marks.{op_flags, region_flags}
use Rattle.av_ir.proofs.Flags.{flat_flags, inner_flags, outer_flags, flags_more, region_flags-out}
use Rattle.av_ir.proofs.marking.+flagging.Goals as goal

pub flag_op-returns-then-not-is_loop : goal.flag_op-returns-then-not-is_loop
flag_op-returns-then-not-is_loop t c =
    on_ok_weaker c.flag_regions.result
    (flat_flags c.args.op.now c.as_slice.result.now c.as_slice.ensures c.is_loop.result c.args.flags.now c.flag_regions.new.flags c.is_loop.ensures c.if-not-is_loop.true)
    c.flag_regions.ensures

pub flag_op-returns-then-len-own : goal.flag_op-returns-then-len-own
flag_op-returns-then-len-own t c =
    c.set.ensures ∙ outer_flags c.args.op.now c.as_slice-2.result.now c.as_slice-2.ensures c.is_loop.result c.args.flags.now c.push.new.self
    c.flag_regions-2.new.flags c.is_loop.ensures c.if-not-is_loop.false c.in_ok-push.ensures.ok c.in_ok-flag_regions.ensures _ c.len-own.ensures (omega arith)

pub flag_op-returns-else-len-own : goal.flag_op-returns-else-len-own
flag_op-returns-else-len-own t c =
    inner_flags c.args.op.now c.as_slice-2.result.now c.as_slice-2.ensures c.is_loop.result c.args.flags.now c.push.new.self
    c.flag_regions-2.new.flags c.is_loop.ensures c.if-not-is_loop.false c.in_ok-push.ensures.ok c.in_ok-flag_regions.ensures (omega arith)

pub flag_ops-loop-op-preserved : goal.flag_ops-loop-op-preserved
flag_ops-loop-op-preserved t c =
    flags_more op_flags c.args.ops.now c.loop-op.op-index c.op-item.result c.args.flags.now c.loop-op.flags _ _ c.loop-op-test.true c.op-item.is
    c.in_ok-flag_op.ensures refl c.loop-op.invariant

pub flag_regions-loop-region-preserved : goal.flag_regions-loop-region-preserved
flag_regions-loop-region-preserved t c =
    flags_more region_flags c.args.regions.now c.loop-region.region-index c.region-item.result c.args.flags.now c.loop-region.flags _ _
    c.loop-region-test.true c.region-item.is c.in_ok-flag_ops.ensures
    (ap (flat_map op_flags) c.as_slice.ensures ∙ sym (region_flags-out c.region-item.result)) c.loop-region.invariant
