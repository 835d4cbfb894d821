use Rattle.std.proofs.Common.{arith, sym, ◌∙◌}
use Rattle.av_affine.proofs.TermPlaces.{term_found, term_before, term_on, term_last}
use Rattle.av_affine.proofs.combine.term_place.Goals as goal

pub returns-then-is_same_leaf : goal.returns-then-is_same_leaf
returns-then-is_same_leaf c = (c.loop-at-test.true, λ f d. c.loop-at.invariant f ∙ term_found (record { leaf = c.args.leaf; factor = f }) c.args.terms.now c.loop-at.at _ c.loop-at-test.true (sym c.is_same_leaf.ensures ∙ c.if-is_same_leaf.true) d)

pub returns-then-is_before_leaf : goal.returns-then-is_before_leaf
returns-then-is_before_leaf c = (omega arith, λ f. c.loop-at.invariant f ∙ term_before (record { leaf = c.args.leaf; factor = f }) c.args.terms.now c.loop-at.at _ c.loop-at-test.true (sym c.is_same_leaf.ensures ∙ c.if-is_same_leaf.false) (sym c.is_before_leaf.ensures ∙ c.if-is_before_leaf.true))

pub loop-at-preserved : goal.loop-at-preserved
loop-at-preserved c = λ f. c.loop-at.invariant f ∙ term_on (record { leaf = c.args.leaf; factor = f }) c.args.terms.now c.loop-at.at _ c.loop-at-test.true (sym c.is_same_leaf.ensures ∙ c.if-is_same_leaf.false) (sym c.is_before_leaf.ensures ∙ c.if-is_before_leaf.false)

pub returns : goal.returns
returns c = (omega arith, λ f. c.loop-at.invariant f ∙ term_last (record { leaf = c.args.leaf; factor = f }) c.args.terms.now c.loop-at.at (omega arith))
