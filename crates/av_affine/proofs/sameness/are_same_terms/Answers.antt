use Rattle.std.proofs.Common.{refl, sym, ◌∙◌, arith}
use Rattle.av_affine.specs.Forms.{all_same, same_term}
use Rattle.av_affine.proofs.Pairwise.{unequal_lengths, fails_indexed, same_indexed, same_whole}
use Rattle.av_affine.proofs.sameness.are_same_terms.Goals as goal

pub returns-then-xs-ys : goal.returns-then-xs-ys
returns-then-xs-ys c = sym (unequal_lengths same_term c.args.xs.now c.args.ys.now c.if-xs-ys.true)

pub returns-then-not-is_same_term : goal.returns-then-not-is_same_term
returns-then-not-is_same_term c =
    sym (fails_indexed same_term c.args.xs.now c.args.ys.now c.loop-i.i _ _ c.loop-i-test.true (omega arith) (sym c.is_same_term.ensures ∙ c.if-not-is_same_term.true))

pub loop-i-preserved : goal.loop-i-preserved
loop-i-preserved c =
    same_indexed same_term c.args.xs.now c.args.ys.now c.loop-i.i _ _ c.loop-i-test.true (omega arith) (sym c.is_same_term.ensures ∙ c.if-not-is_same_term.false) c.loop-i.invariant

pub returns : goal.returns
returns c = sym (same_whole same_term c.args.xs.now c.args.ys.now c.loop-i.i (omega arith) (omega arith) c.loop-i.invariant)

pub loop-i-init : goal.loop-i-init
unfolding all_same
loop-i-init c = refl
