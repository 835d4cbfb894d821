use Rattle.av_printer.specs.Operations.{known_type}
use Rattle.av_printer.proofs.Steps.{commas-turn}
use Rattle.av_printer.proofs.generic.print_known_types.Goals as goal

pub loop-i-preserved : goal.loop-i-preserved
loop-i-preserved c =
    commas-turn known_type c.args.types.now c.loop-i.i _ _ c.args.out.now c.loop-i.out c.push_comma_after.new.self c.print_known_type.new.out c.loop-i-test.true c.index-types-i.is c.loop-i.invariant c.in_ok-push_comma_after.ensures c.in_ok-print_known_type.ensures
