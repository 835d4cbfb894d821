use Rattle.av_printer.specs.Types.{dim_x}
use Rattle.av_printer.proofs.Steps.{joined-turn}
use Rattle.std.proofs.Common.{refl}
use Rattle.av_printer.proofs.types.print_dims.Goals as goal

pub loop-dim-preserved : goal.loop-dim-preserved
loop-dim-preserved c =
    joined-turn dim_x c.args.dims.now c.loop-dim.dim-index _ _ c.args.out.now c.loop-dim.out c.print_dim_x.new.out c.loop-dim-test.true refl c.loop-dim.invariant c.in_ok-print_dim_x.ensures
