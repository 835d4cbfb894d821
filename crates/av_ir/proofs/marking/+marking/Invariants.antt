-- each list is made up to the place of the loop
use Rattle.std.proofs.Common.{length}
use Rattle.av_ir.specs.Marks.{marked_op, marked_region}
use Rattle.av_ir.proofs.Turns.{IsMadeTo}
use Rattle.av_ir.proofs.marking.+marking.Given as goal

abbrev pub invariant-mark_ops-loop-op : goal.invariant-mark_ops-loop-op
invariant-mark_ops-loop-op l = IsMadeTo marked_op l.ops (length l.initial.loops) l.op-index l.copies (length l.loops)

abbrev pub invariant-mark_regions-loop-region : goal.invariant-mark_regions-loop-region
invariant-mark_regions-loop-region l = IsMadeTo marked_region l.regions (length l.initial.loops) l.region-index l.copies (length l.loops)
