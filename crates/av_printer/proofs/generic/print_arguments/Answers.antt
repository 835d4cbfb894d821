use Rattle.av_printer.specs.Operations.{argument}
use Rattle.av_printer.proofs.Steps.{commas-turn}
use Rattle.av_printer.proofs.generic.print_arguments.Goals as goal

pub loop-i-preserved : goal.loop-i-preserved
loop-i-preserved c =
    commas-turn argument c.args.args.now c.loop-i.i _ _ c.push_bytes.new.self c.loop-i.out c.push_comma_after.new.self c.print_argument.new.out c.loop-i-test.true c.index-args-i.is c.loop-i.invariant c.in_ok-push_comma_after.ensures c.in_ok-print_argument.ensures
