use Rattle.av_printer.specs.Pieces.{plain}
use Rattle.av_printer.specs.Expressions.{expression}
use Rattle.av_printer.proofs.Steps.{commas-turn}
use Rattle.av_printer.proofs.expressions.print_results.Goals as goal

pub loop-i-preserved : goal.loop-i-preserved
loop-i-preserved c =
    commas-turn (expression plain) c.args.results.now c.loop-i.i _ _ c.push_bytes.new.self c.loop-i.out c.push_comma_after.new.self c.print_own.new.out c.loop-i-test.true c.index-results-i.is c.loop-i.invariant c.in_ok-push_comma_after.ensures c.in_ok-print_own.ensures
