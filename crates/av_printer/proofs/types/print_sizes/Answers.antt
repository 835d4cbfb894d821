use Rattle.av_printer.specs.Types.{size_x}
use Rattle.av_printer.proofs.Steps.{joined-turn}
use Rattle.std.proofs.Common.{refl}
use Rattle.av_printer.proofs.types.print_sizes.Goals as goal

pub loop-size-preserved : goal.loop-size-preserved
loop-size-preserved c =
    joined-turn size_x c.args.sizes.now c.loop-size.size-index _ _ c.args.out.now c.loop-size.out c.print_size_x.new.out c.loop-size-test.true refl c.loop-size.invariant c.in_ok-print_size_x.ensures
