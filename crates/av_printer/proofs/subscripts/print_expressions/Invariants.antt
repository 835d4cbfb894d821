use Rattle.std.proofs.Common.{◌≡◌, ◌++◌, map, take}
use Rattle.av_printer.specs.Pieces.{spelt, commas}
use Rattle.av_printer.specs.Expressions.{leaf, expression}
use Rattle.av_printer.proofs.subscripts.print_expressions.Given as goal

abbrev pub invariant-loop-i : goal.invariant-loop-i
invariant-loop-i l = l.out ≡ l.initial.out ++ spelt (commas (map (expression (leaf l.leaves.dims.now l.leaves.dim_values.now l.leaves.syms.now l.leaves.sym_values.now)) (take l.i l.exprs)))
