use Rattle.std.proofs.Common.{arith}
use Rattle.av_affine.specs.Values.{leaves}
use Rattle.av_affine.specs.Results.{RowHolds}
use Rattle.av_affine.proofs.Listed.{fails_at, holds_more, holds_all}
use Rattle.av_affine.proofs.results.holds.Goals as goal

pub returns-then-not-row_holds : goal.returns-then-not-row_holds
returns-then-not-row_holds c = (
  (λ h. absurd (grind arith)),
  (λ h. absurd (fails_at (RowHolds (leaves c.args.dims.now c.args.syms.now)) c.args.set.now.rows c.as_slice-row-items.result.now c.loop-row.row-index
      c.as_slice-row-items.ensures c.row-item.result c.loop-row-test.true c.row-item.is
      (λ p. let t = c.row_holds.ensures.1 p in grind arith) h)),
)

pub loop-row-preserved : goal.loop-row-preserved
loop-row-preserved c =
    holds_more (RowHolds (leaves c.args.dims.now c.args.syms.now)) c.args.set.now.rows c.as_slice-row-items.result.now c.loop-row.row-index
    c.as_slice-row-items.ensures c.row-item.result c.loop-row-test.true c.row-item.is
    (c.row_holds.ensures.0 (grind arith)) c.loop-row.invariant

pub returns : goal.returns
returns c = (
  (λ h. holds_all (RowHolds (leaves c.args.dims.now c.args.syms.now)) c.args.set.now.rows c.as_slice-row-items.result.now c.loop-row.row-index
      c.as_slice-row-items.ensures c.loop-row-test.false c.loop-row.invariant),
  (λ h. grind arith),
)
