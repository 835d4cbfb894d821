use Rattle.std.proofs.Common.{ℕ, suc, ◌+◌, Bool, true, false, cond, drop, sym, ap, ◌∙◌}
use Rattle.av_printer.specs.Parts.{behind_seen}
use Rattle.av_printer.proofs.PartSteps.{behind-region, behind-other, behind-none, one_more}
use Rattle.av_printer.proofs.shares.behind_regions.Goals as goal
use Rattle.av_printer.proofs.shares.behind_regions.Goals.{then-is_region, else-is_region+else-seen}

pub returns-then-seen : goal.returns-then-seen
returns-then-seen c =
    let parts = c.args.parts.now in
    let i = c.loop-i.i in
    c.split_at.ensures.back
    ∙ sym (c.loop-i.invariant ∙ behind-other c.loop-i.seen parts _ i c.loop-i-test.true c.if-is_region.ensures
    ∙ ap (λ (b : Bool). cond b (drop i parts) (behind_seen false (drop (suc i) parts))) c.if-seen.true)

pub loop-i-preserved : goal.loop-i-preserved
loop-i-preserved c =
    let parts = c.args.parts.now in
    let i = c.loop-i.i in
    let from = λ (b : Bool) (k : ℕ). behind_seen b (drop k parts) in
    elim c.if-is_region.branch [
      | then-is_region w ↦
          c.loop-i.invariant ∙ behind-region c.loop-i.seen parts _ i c.loop-i-test.true w.if-is_region.ensures
          ∙ ap (from true) (sym (one_more i)) ∙ ap (λ b. from b (i + 1)) (sym w.seen-is)
      | else-is_region+else-seen w ↦
          c.loop-i.invariant ∙ behind-other c.loop-i.seen parts _ i c.loop-i-test.true w.if-is_region.ensures
          ∙ ap (λ (b : Bool). cond b (drop i parts) (from false (suc i))) w.if-seen.false
          ∙ ap (from false) (sym (one_more i)) ∙ ap (λ b. from b (i + 1)) (sym (w.seen-is ∙ w.if-seen.false))
    ]

pub returns : goal.returns
returns c = sym (c.loop-i.invariant ∙ behind-none c.loop-i.seen c.args.parts.now c.loop-i.i c.loop-i-test.false)
