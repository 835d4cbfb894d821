use Rattle.std.proofs.Common.{◌≡◌, ℕ, ◌<◌, ◌≤◌, ◌++◌, true, false, length, get_or, take, insert, sym, ap, ◌∙◌, arith, Bor}
use Rattle.av_tree.specs.declared.attribute.Named.{Named, out-Named}
use Rattle.av_printer.specs.Dictionaries.{stands_before, pointed}
use Rattle.av_printer.proofs.DictionarySteps.{place-here, place-on, place-end, pointed-at, pointed-length}
use Rattle.av_printer.proofs.dictionaries.place_of.Goals as goal

pub returns-then-stands_before-clause-place : goal.returns-then-stands_before-clause-place
returns-then-stands_before-clause-place c =
    let r = c.index-ordered-i.result in
    let p = pointed c.args.ordered.now in
    let q : r.now ≡ get_or p c.loop-i.i r.now = ap (λ (b : Bor Named). b.now) c.index-ordered-i.is ∙ sym (pointed-at c.args.ordered.now c.loop-i.i r) in
    let h : c.loop-i.i < length p = omega (arith, pointed-length c.args.ordered.now) in
    let b : true ≡ stands_before (out-Named c.args.entry.now).name (out-Named r.now).name = cc in
    ap (λ ys. take c.loop-i.i p ++ ys) (sym (place-here p c.args.entry.now r.now c.loop-i.i h q b)) ∙ c.loop-i.invariant

pub loop-i-preserved : goal.loop-i-preserved
loop-i-preserved c =
    let r = c.index-ordered-i.result in
    let p = pointed c.args.ordered.now in
    let q : r.now ≡ get_or p c.loop-i.i r.now = ap (λ (b : Bor Named). b.now) c.index-ordered-i.is ∙ sym (pointed-at c.args.ordered.now c.loop-i.i r) in
    let h : c.loop-i.i < length p = omega (arith, pointed-length c.args.ordered.now) in
    let b : false ≡ stands_before (out-Named c.args.entry.now).name (out-Named r.now).name = cc in
    place-on p c.args.entry.now r.now c.loop-i.i h q b ∙ c.loop-i.invariant

pub returns-clause-place : goal.returns-clause-place
returns-clause-place c =
    let p = pointed c.args.ordered.now in
    let q : length c.args.ordered.now ≡ c.loop-i.i = omega arith in
    let h : length p ≤ c.loop-i.i = omega (arith, pointed-length c.args.ordered.now) in
    ap (λ (n : ℕ). insert p n c.args.entry.now) q
    ∙ ap (λ ys. take c.loop-i.i p ++ ys) (sym (place-end p c.args.entry.now c.loop-i.i h)) ∙ c.loop-i.invariant
