use Rattle.std.proofs.Common.{length}
use Rattle.av_ir.specs.Marks.{marked_func}
use Rattle.av_ir.proofs.Turns.{made_more, made_all, counted_all}
use Rattle.av_ir.proofs.marking.mark_funcs.Goals as goal

pub loop-func-preserved : goal.loop-func-preserved
loop-func-preserved c =
    made_more marked_func c.args.funcs.now (length c.args.loops.now) c.loop-func.func-index c.func-item.result c.loop-func.copies c.push.new.self
    c.in_ok-mark_func.field-0 (length c.loop-func.loops) (length c.mark_func.new.loops)
    c.loop-func-test.true c.func-item.is c.in_ok-mark_func.ensures.made c.in_ok-mark_func.ensures.count c.in_ok-push.ensures.ok c.loop-func.invariant

pub returns-clause-made : goal.returns-clause-made
returns-clause-made c = made_all _ _ _ c.loop-func.func-index _ _ c.loop-func-test.false c.loop-func.invariant

pub returns-clause-count : goal.returns-clause-count
returns-clause-count c = counted_all _ _ _ c.loop-func.func-index _ _ c.loop-func-test.false c.loop-func.invariant
