use Rattle.std.proofs.Common.{◌+◌, List, drop, insert, sym, ap, ◌∙◌, arith, Bor}
use Rattle.av_tree.specs.declared.attribute.Named.{Named}
use Rattle.av_printer.specs.Dictionaries.{inserted, ordered_onto, pointed}
use Rattle.av_printer.proofs.DictionarySteps.{pointed-insert, ordered-on, ordered-end}
use Rattle.av_printer.proofs.dictionaries.in_order.Goals as goal

pub loop-entry-preserved : goal.loop-entry-preserved
loop-entry-preserved c =
    let es = c.args.entries.now in
    let e = c.entry-item.result in
    let at = c.place_of-at.result in
    let v = c.as_slice.ensures.value in
    let placed = ap (λ (o : List (Bor Named)). insert (pointed o) at e) (sym v) ∙ c.place_of-at.ensures.place ∙ ap (λ (o : List (Bor Named)). inserted e (pointed o)) v in
    ap (λ (o : List Named). ordered_onto o (drop (c.loop-entry.entry-index + 1) es))
    (ap pointed c.in_ok-insert.ensures.items ∙ pointed-insert c.loop-entry.ordered.items at _ ∙ placed)
    ∙ ordered-on (pointed c.loop-entry.ordered.items) es c.loop-entry.entry-index e c.loop-entry-test.true c.entry-item.is
    ∙ c.loop-entry.invariant

pub returns : goal.returns
returns c =
    sym (ordered-end (pointed c.loop-entry.ordered.items) c.args.entries.now c.loop-entry.entry-index (omega arith)) ∙ c.loop-entry.invariant
