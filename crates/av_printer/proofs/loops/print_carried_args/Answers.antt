use Rattle.std.proofs.Common.{arith}
use Rattle.av_printer.proofs.OperationSteps.{pairs-turn}
use Rattle.av_printer.proofs.loops.print_carried_args.Goals as goal

pub loop-i-preserved : goal.loop-i-preserved
loop-i-preserved c =
    pairs-turn c.args.args.now c.args.values.now c.loop-i.i c.index-args-i.result c.index-values-i.result c.push_bytes.new.self c.loop-i.out c.push_comma_after.new.self c.print_carried_arg.new.out
    (omega arith) (omega arith) c.index-args-i.is c.index-values-i.is c.loop-i.invariant c.in_ok-push_comma_after.ensures c.in_ok-print_carried_arg.ensures
