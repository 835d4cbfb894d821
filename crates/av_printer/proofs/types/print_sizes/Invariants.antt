use Rattle.std.proofs.Common.{◌≡◌, ◌++◌, map, take}
use Rattle.av_printer.specs.Pieces.{spelt, joined}
use Rattle.av_printer.specs.Types.{size_x}
use Rattle.av_printer.proofs.types.print_sizes.Given as goal

abbrev pub invariant-loop-size : goal.invariant-loop-size
invariant-loop-size l = l.out ≡ l.fn.out ++ spelt (joined (map size_x (take l.size-index l.sizes)))
