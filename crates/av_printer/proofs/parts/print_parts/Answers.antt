use Rattle.std.proofs.Common.{◌++◌, ℕ, List, get_or, take, drop, length, sym, ap, ◌∙◌}
use Rattle.std.proofs.lemmas.List.{append-nil}
use Rattle.av_dialects.specs.Rows.{Part}
use Rattle.av_dialects.specs.Types.{needs}
use Rattle.av_printer.specs.Pieces.{spelt}
use Rattle.av_printer.specs.Operations.{head_of}
use Rattle.av_printer.specs.Parts.{share, parts_pieces}
use Rattle.av_printer.proofs.PartSteps.{parts-turn, no_parts, one_more}
use Rattle.av_printer.proofs.parts.print_parts.Goals as goal

pub loop-i-preserved : goal.loop-i-preserved
loop-i-preserved c =
    let h = head_of c.args.node.now in
    let parts = c.args.parts.now in
    let i = c.loop-i.i in
    let left = c.loop-i.left.now in
    let item = (get_or parts i _).1 in
    let next = c.split_at.ensures.back ∙ ap (λ (k : ℕ). drop k parts) (one_more i) in
    ap (λ (k : ℕ). c.print_part.new.out ++ spelt (parts_pieces h (drop k parts) c.shared.result.1.now)) (one_more i)
    ∙ parts-turn h parts _ i c.loop-i.left.now c.shared.result.0.now c.shared.result.1.now c.loop-i.out c.print_part.new.out _ c.loop-i-test.true
    (c.shared.ensures.taken ∙ ap (λ (ps : List Part). take (share h item (length left) (needs ps)) left) next)
    (c.shared.ensures.others ∙ ap (λ (ps : List Part). drop (share h item (length left) (needs ps)) left) next)
    c.in_ok-print_part.ensures c.loop-i.invariant

pub returns : goal.returns
returns c =
    let out = c.loop-i.out in
    sym (append-nil out)
    ∙ ap (λ (t : List ℕ). out ++ t) (sym (no_parts (head_of c.args.node.now) c.args.parts.now c.loop-i.i c.loop-i.left.now c.loop-i-test.false)) ∙ c.loop-i.invariant
