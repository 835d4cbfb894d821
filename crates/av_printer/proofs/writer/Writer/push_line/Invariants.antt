use Rattle.std.proofs.Common.{◌≡◌, ◌∷◌, ◌++◌}
use Rattle.av_printer.specs.Pieces.{margin}
use Rattle.av_printer.proofs.writer.Writer.push_line.Given as goal

abbrev pub invariant-loop-inner : goal.invariant-loop-inner
invariant-loop-inner l = l.self ≡ l.fn.self ++ 10 ∷ margin l._inner
