use Rattle.std.proofs.Common.{refl, sym, ◌∙◌, arith}
use Rattle.av_affine.specs.Forms.{all_same, same_opaque}
use Rattle.av_affine.proofs.Pairwise.{unequal_lengths, fails_somewhere, same_more, same_whole}
use Rattle.av_affine.proofs.sameness.+comparing.Goals as goal

pub are_same_opaques-returns-then-xs-ys : goal.are_same_opaques-returns-then-xs-ys
are_same_opaques-returns-then-xs-ys t c = sym (unequal_lengths same_opaque c.args.xs.now c.args.ys.now c.if-xs-ys.true)

pub are_same_opaques-returns-then-not-is_same_opaque : goal.are_same_opaques-returns-then-not-is_same_opaque
are_same_opaques-returns-then-not-is_same_opaque t c =
    sym (fails_somewhere same_opaque c.args.xs.now c.args.ys.now c.loop-i.i c.index-xs-i.result c.index-ys-i.result c.loop-i-test.true (omega arith) c.index-xs-i.is c.index-ys-i.is (sym c.is_same_opaque.ensures ∙ c.if-not-is_same_opaque.true))

pub are_same_opaques-loop-i-preserved : goal.are_same_opaques-loop-i-preserved
are_same_opaques-loop-i-preserved t c =
    same_more same_opaque c.args.xs.now c.args.ys.now c.loop-i.i c.index-xs-i.result c.index-ys-i.result c.loop-i-test.true (omega arith) c.index-xs-i.is c.index-ys-i.is (sym c.is_same_opaque.ensures ∙ c.if-not-is_same_opaque.false) c.loop-i.invariant

pub are_same_opaques-returns : goal.are_same_opaques-returns
are_same_opaques-returns t c = sym (same_whole same_opaque c.args.xs.now c.args.ys.now c.loop-i.i (omega arith) (omega arith) c.loop-i.invariant)

pub are_same_opaques-loop-i-init : goal.are_same_opaques-loop-i-init
unfolding all_same
are_same_opaques-loop-i-init t c = refl
