use Rattle.std.proofs.Common.{◌≡◌, ◌++◌, map, drop}
use Rattle.av_printer.specs.Pieces.{spelt, behind}
use Rattle.av_printer.specs.Expressions.{value}
use Rattle.av_printer.proofs.operands.print_more.Given as goal

abbrev pub invariant-loop-operand : goal.invariant-loop-operand
invariant-loop-operand l =
    l.out ++ spelt (behind (map value (drop l.operand-index l.operands))) ≡ l.fn.out ++ spelt (behind (map value l.operands))
