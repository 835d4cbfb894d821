use Rattle.std.proofs.Common.{◌≡◌, ◌++◌, drop}
use Rattle.av_printer.specs.Pieces.{spelt}
use Rattle.av_printer.specs.Operations.{head_of}
use Rattle.av_printer.specs.Parts.{parts_pieces}
use Rattle.av_printer.proofs.parts.print_parts.Given as goal

-- written so far, with what the other parts spell of the operands that are left
abbrev pub invariant-loop-i : goal.invariant-loop-i
invariant-loop-i l =
    l.out ++ spelt (parts_pieces (head_of l.node) (drop l.i l.parts) l.left) ≡ l.fn.out ++ spelt (parts_pieces (head_of l.node) l.parts l.operands)
