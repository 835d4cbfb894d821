use Rattle.std.proofs.Common.{◌++◌, ℕ, drop, take, sym, ap, ◌∙◌}
use Rattle.av_printer.specs.Parts.{before_regions}
use Rattle.av_printer.proofs.PartSteps.{before-found, before-next, before-all, one_more}
use Rattle.av_printer.proofs.shares.before_regions.Goals as goal

pub returns-then-is_region : goal.returns-then-is_region
returns-then-is_region c =
    c.split_at.ensures.front ∙ sym (c.loop-i.invariant ∙ before-found c.args.parts.now _ c.loop-i.i c.loop-i-test.true c.if-is_region.ensures)

pub loop-i-preserved : goal.loop-i-preserved
loop-i-preserved c =
    c.loop-i.invariant ∙ before-next c.args.parts.now _ c.loop-i.i c.loop-i-test.true c.if-is_region.ensures
    ∙ ap (λ (k : ℕ). take k c.args.parts.now ++ before_regions (drop k c.args.parts.now)) (sym (one_more c.loop-i.i))

pub returns : goal.returns
returns c = sym (c.loop-i.invariant ∙ before-all c.args.parts.now c.loop-i.i c.loop-i-test.false)
