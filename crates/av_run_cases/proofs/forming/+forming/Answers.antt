use Rattle.std.proofs.Common.{◌≡◌, ℕ, ap, sym, ◌∙◌, refl, subst, arith, true, false}
use Rattle.std.specs.List.{All}
use Rattle.av_affine.proofs.Listed.{holds_more, holds_all}
use Rattle.av_ir.specs.declared.module.Op.{out-Op}
use Rattle.av_ir.specs.declared.module.Region.{out-Region}
use Rattle.av_ir.specs.WellFormed.{AreValues, IsWellFormedOp, IsWellFormedRegion}
use Rattle.av_scalar.proofs.Opened.{usable_maps, results_named, regions_formed, args_named, ops_formed, formed_if, region_formed_if}
use Rattle.av_run_cases.proofs.forming.+forming.Goals as goal

pub is_formed_op-returns-then-not-has_usable_maps : goal.is_formed_op-returns-then-not-has_usable_maps
is_formed_op-returns-then-not-has_usable_maps t c = (
  λ f. absurd (cc),
  λ h. absurd (let is = c.has_usable_maps.ensures.1 (usable_maps c.args.count c.args.op.now h) in cc),
)

pub is_formed_op-returns-then-not-are_values : goal.is_formed_op-returns-then-not-are_values
is_formed_op-returns-then-not-are_values t c = (
  λ f. absurd (cc),
  λ h. absurd (let is = c.are_values.ensures.1 (subst (AreValues c.args.count) (sym c.as_slice.ensures) (results_named c.args.count c.args.op.now h)) in cc),
)

pub is_formed_op-returns : goal.is_formed_op-returns
is_formed_op-returns t c = (
  λ r.
      formed_if c.args.count c.args.op.now (c.has_usable_maps.ensures.0 c.if-not-has_usable_maps.false)
      (subst (AreValues c.args.count) c.as_slice.ensures (c.are_values.ensures.0 c.if-not-are_values.false))
      (subst (All (IsWellFormedRegion c.args.count)) c.as_slice-2.ensures (c.are_formed_regions.ensures.0 r)),
  λ h. c.are_formed_regions.ensures.1 (subst (All (IsWellFormedRegion c.args.count)) (sym c.as_slice-2.ensures) (regions_formed c.args.count c.args.op.now h)),
)

pub is_formed_region-returns-then-not-are_values : goal.is_formed_region-returns-then-not-are_values
is_formed_region-returns-then-not-are_values t c = (
  λ f. absurd (cc),
  λ h. absurd (let is = c.are_values.ensures.1 (subst (AreValues c.args.count) (sym c.as_slice.ensures) (args_named c.args.count c.args.region.now h)) in cc),
)

pub is_formed_region-returns : goal.is_formed_region-returns
is_formed_region-returns t c = (
  λ r.
      region_formed_if c.args.count c.args.region.now (subst (AreValues c.args.count) c.as_slice.ensures (c.are_values.ensures.0 c.if-not-are_values.false))
      (subst (All (IsWellFormedOp c.args.count)) c.as_slice-2.ensures (c.are_formed_ops.ensures.0 r)),
  λ h. c.are_formed_ops.ensures.1 (subst (All (IsWellFormedOp c.args.count)) (sym c.as_slice-2.ensures) (ops_formed c.args.count c.args.region.now h)),
)

pub are_formed_ops-loop-op-preserved : goal.are_formed_ops-loop-op-preserved
are_formed_ops-loop-op-preserved t c =
    holds_more (IsWellFormedOp c.args.count) c.args.ops.now c.args.ops.now c.loop-op.op-index refl c.op-item.result c.loop-op-test.true c.op-item.is
    (c.is_formed_op.ensures.0 c.if-not-is_formed_op.false) c.loop-op.invariant

pub are_formed_ops-returns : goal.are_formed_ops-returns
are_formed_ops-returns t c = (λ r. holds_all (IsWellFormedOp c.args.count) c.args.ops.now c.args.ops.now c.loop-op.op-index refl c.loop-op-test.false c.loop-op.invariant, λ h. refl)

pub are_formed_regions-loop-region-preserved : goal.are_formed_regions-loop-region-preserved
are_formed_regions-loop-region-preserved t c =
    holds_more (IsWellFormedRegion c.args.count) c.args.regions.now c.args.regions.now c.loop-region.region-index refl c.region-item.result c.loop-region-test.true c.region-item.is
    (c.is_formed_region.ensures.0 c.if-not-is_formed_region.false) c.loop-region.invariant

pub are_formed_regions-returns : goal.are_formed_regions-returns
are_formed_regions-returns t c = (λ r. holds_all (IsWellFormedRegion c.args.count) c.args.regions.now c.args.regions.now c.loop-region.region-index refl c.loop-region-test.false c.loop-region.invariant, λ h. refl)
