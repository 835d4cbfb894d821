use Rattle.av_printer.specs.Types.{size_alone}
use Rattle.av_printer.proofs.Steps.{commas-turn}
use Rattle.std.proofs.Common.{refl}
use Rattle.av_printer.proofs.types.print_strides.Goals as goal

pub loop-i-preserved : goal.loop-i-preserved
loop-i-preserved c =
    commas-turn size_alone c.args.strides.now c.loop-i.i _ _ c.push_bytes.new.self c.loop-i.out c.push_comma_after.new.self c.print_size.new.out c.loop-i-test.true refl c.loop-i.invariant c.in_ok-push_comma_after.ensures c.in_ok-print_size.ensures
