use Rattle.std.proofs.Common.{◌++◌, ℕ, List, map, drop, sym, ap, ◌∙◌}
use Rattle.std.proofs.lemmas.List.{append-nil}
use Rattle.av_printer.specs.Pieces.{spelt, behind}
use Rattle.av_printer.specs.Expressions.{value}
use Rattle.av_printer.proofs.PartSteps.{more-turn, no_more, one_more}
use Rattle.av_printer.proofs.operands.print_more.Goals as goal

pub loop-operand-preserved : goal.loop-operand-preserved
loop-operand-preserved c =
    let vs = c.args.operands.now in
    let i = c.loop-operand.operand-index in
    ap (λ (k : ℕ). c.push_text.new.self ++ spelt (behind (map value (drop k vs)))) (one_more i)
    ∙ more-turn vs c.operand-item.result i c.loop-operand.out c.push_bytes.new.self c.push_text.new.self _ c.loop-operand-test.true c.operand-item.is
    c.in_ok-push_bytes.ensures c.in_ok-push_text.ensures c.loop-operand.invariant

pub returns : goal.returns
returns c =
    let out = c.loop-operand.out in
    sym (append-nil out) ∙ ap (λ (t : List ℕ). out ++ t) (sym (no_more c.args.operands.now c.loop-operand.operand-index c.loop-operand-test.false)) ∙ c.loop-operand.invariant
