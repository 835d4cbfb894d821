use Rattle.std.proofs.Common.{◌++◌, ℕ, List, ap, ◌∙◌, sym, option_copied}
use Rattle.av_printer.specs.Pieces.{Piece, spelt}
use Rattle.av_printer.specs.Expressions.{value}
use Rattle.av_printer.specs.Operations.{subscripts_if_any}
use Rattle.av_printer.proofs.Steps.{then, from_text}
use Rattle.av_printer.proofs.ExpressionSteps.{spelt-value}
use Rattle.av_printer.proofs.OperationSteps.{buffer-some}
use Rattle.av_printer.proofs.operands.print_buffer.Goals as goal

pub returns-in_ok-print_subscripts_of-in-len1-up : goal.returns-in_ok-print_subscripts_of-in-len1-up
returns-in_ok-print_subscripts_of-in-len1-up c =
    let v = c.first-item.result in
    let m = option_copied c.args.map in
    then _ _ _ (value v) (subscripts_if_any m c.behind.result.now)
    (from_text _ _ (value v) v (spelt-value v) c.in_ok-push_text-in-len1-up.ensures) c.in_ok-print_subscripts_of-in-len1-up.ensures
    ∙ ap (λ (p : List Piece). c.args.out.now ++ spelt p)
    (ap (λ (o : List (List ℕ)). value v ++ subscripts_if_any m o) c.behind.ensures ∙ sym (buffer-some m c.args.operands.now v c.in-len1-up.len_at_least c.first-item.is))
