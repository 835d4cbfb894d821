use Rattle.std.proofs.Common.{◌++◌, ℕ, List, sym, ap, ◌∙◌, codes}
use Rattle.av_lex.specs.declared.token.Sign.TheVariants.{OpenSquare, CloseSquare}
use Rattle.av_printer.specs.Pieces.{Piece, spelt, sign, in_square}
use Rattle.av_printer.specs.Expressions.{value}
use Rattle.av_printer.specs.Operations.{values_pieces}
use Rattle.av_printer.proofs.Steps.{then, then_text, from_text, spelt-sign}
use Rattle.av_printer.proofs.ExpressionSteps.{spelt-value}
use Rattle.av_printer.proofs.PartSteps.{element-some}
use Rattle.av_printer.proofs.operands.print_element.Goals as goal

pub returns-in_ok-push_bytes-in-len1-up-2 : goal.returns-in_ok-push_bytes-in-len1-up-2
returns-in_ok-push_bytes-in-len1-up-2 c =
    let vs = c.args.operands.now in
    let v = c.buffer-item.result in
    let indices = values_pieces c.behind.result.now in
    then c.args.out.now c.push_text.new.self c.push_bytes-in-len1-up.new.self (value v) (in_square indices)
    (from_text _ _ (value v) v (spelt-value v) c.in_ok-push_text-in-len1-up.ensures)
    (then_text _ _ _ (sign OpenSquare ++ indices) (sign CloseSquare) (codes "]") (spelt-sign CloseSquare)
    (then _ _ _ (sign OpenSquare) indices (from_text _ _ (sign OpenSquare) (codes "[") (spelt-sign OpenSquare) c.in_ok-push_bytes-in-len1-up.ensures)
    c.in_ok-print_values-in-len1-up.ensures)
    c.in_ok-push_bytes-in-len1-up-2.ensures)
    ∙ ap (λ (p : List Piece). c.args.out.now ++ spelt p)
    (ap (λ (o : List (List ℕ)). value v ++ in_square (values_pieces o)) c.behind.ensures ∙ sym (element-some vs v c.in-len1-up.len_at_least c.buffer-item.is))
