use Rattle.std.proofs.Common.{◌≡◌, ◌<◌, length, get_or, sym, ap, ◌∙◌, arith, Bor}
use Rattle.av_tree.specs.declared.attribute.Named.{Named}
use Rattle.av_printer.specs.Attributes.{entry_pieces}
use Rattle.av_printer.specs.Dictionaries.{pointed}
use Rattle.av_printer.proofs.Steps.{commas-turn}
use Rattle.av_printer.proofs.DictionarySteps.{pointed-at, pointed-length}
use Rattle.av_printer.proofs.dictionaries.print_ordered.Goals as goal

pub loop-i-preserved : goal.loop-i-preserved
loop-i-preserved c =
    let r = c.index-entries-i.result in
    let p = pointed c.args.entries.now in
    let q : r.now ≡ get_or p c.loop-i.i r.now = ap (λ (b : Bor Named). b.now) c.index-entries-i.is ∙ sym (pointed-at c.args.entries.now c.loop-i.i r) in
    let h : c.loop-i.i < length p = omega (arith, pointed-length c.args.entries.now) in
    commas-turn entry_pieces p c.loop-i.i r.now r.now c.args.out.now c.loop-i.out c.push_comma_after.new.self c.print_entry.new.out h q c.loop-i.invariant c.in_ok-push_comma_after.ensures c.in_ok-print_entry.ensures
