use Rattle.std.proofs.Common.{suc, ◌++◌, ◌+ℤ◌, take, drop, sym, ◌∙◌, ap, arith}
use Rattle.av_affine.specs.Forms.{same_division, factor_of, opaque_unless_zero}
use Rattle.av_affine.proofs.Pairwise.{any_default}
use Rattle.av_affine.proofs.Placed.{opaque_on, opaque_found, opaque_last}
use Rattle.av_affine.proofs.combine.opaque_place.Goals as goal

pub loop-at-preserved : goal.loop-at-preserved
loop-at-preserved c =
    c.loop-at.invariant ∙ opaque_on c.args.opaque.now c.args.opaques.now c.loop-at.at c.index-opaques-at.result c.loop-at-test.true (sym (ap (same_division c.args.opaque.now) c.index-opaques-at.is) ∙ sym c.is_same_division.ensures ∙ c.if-is_same_division.false)

pub returns : goal.returns
returns c = c.loop-at.invariant ∙ opaque_last c.args.opaque.now c.args.opaques.now c.loop-at.at (omega arith)

pub returns-then-is_same_division : goal.returns-then-is_same_division
returns-then-is_same_division c = (
  c.loop-at-test.true,
  c.loop-at.invariant ∙ opaque_found c.args.opaque.now c.args.opaques.now c.loop-at.at c.index-opaques-at.result c.loop-at-test.true (sym (ap (same_division c.args.opaque.now) c.index-opaques-at.is) ∙ sym c.is_same_division.ensures ∙ c.if-is_same_division.true)
      ∙ ap (λ p. take c.loop-at.at c.args.opaques.now ++ opaque_unless_zero p (factor_of p +ℤ factor_of c.args.opaque.now) (drop (suc c.loop-at.at) c.args.opaques.now))
      (any_default c.args.opaques.now c.loop-at.at c.index-opaques-at.result c.args.opaque.now c.loop-at-test.true),
)
