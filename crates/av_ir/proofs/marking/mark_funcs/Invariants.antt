use Rattle.std.proofs.Common.{length}
use Rattle.av_ir.specs.Marks.{marked_func}
use Rattle.av_ir.proofs.Turns.{IsMadeTo}
use Rattle.av_ir.proofs.marking.mark_funcs.Given as goal

abbrev pub invariant-loop-func : goal.invariant-loop-func
invariant-loop-func l = IsMadeTo marked_func l.funcs (length l.initial.loops) l.func-index l.copies (length l.loops)
