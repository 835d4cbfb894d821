use Rattle.std.proofs.Common.{◌≡◌, ◌++◌, map, take}
use Rattle.av_printer.specs.Pieces.{spelt, joined}
use Rattle.av_printer.specs.Types.{dim_x}
use Rattle.av_printer.proofs.types.print_dims.Given as goal

abbrev pub invariant-loop-dim : goal.invariant-loop-dim
invariant-loop-dim l = l.out ≡ l.fn.out ++ spelt (joined (map dim_x (take l.dim-index l.dims)))
