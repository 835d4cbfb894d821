use Rattle.std.proofs.Common.{◌++◌, ℕ, List, ap, ◌∙◌}
use Rattle.av_printer.specs.Pieces.{Piece, spelt}
use Rattle.av_printer.specs.Expressions.{part_of}
use Rattle.av_printer.proofs.ExpressionSteps.{own-names}
use Rattle.av_printer.proofs.expressions.print_own.Goals as goal

pub returns : goal.returns
returns c =
    c.in_ok-print_expression.ensures
    ∙ ap (λ (names : List ℕ → List Piece). c.args.out.now ++ spelt (part_of names c.args.expr.now).pieces)
    (own-names _ _ _ _ c.parameters-leaves.ensures.dims c.parameters-leaves.ensures.syms)
