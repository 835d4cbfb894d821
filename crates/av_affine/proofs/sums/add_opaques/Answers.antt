use Rattle.std.proofs.Common.{arith, ap, sym, ◌∙◌}
use Rattle.av_affine.specs.Forms.{add_opaques}
use Rattle.av_affine.specs.Sizes.{opaques_size}
use Rattle.av_affine.proofs.Sizes.{add_opaque-size}
use Rattle.av_affine.proofs.sums.add_opaques.Goals as goal

pub add_opaque-requires : goal.add_opaque-requires
unfolding opaques_size
add_opaque-requires c = omega (arith, ap opaques_size c.in-Some.ensures, c.loop-opaque.invariant.small)

pub loop-opaque-preserved : goal.loop-opaque-preserved
unfolding add_opaques opaques_size
loop-opaque-preserved c = record {
  same =
      ap (λ ps. add_opaques ps c.next.new.self) c.in_ok-add_opaque.ensures ∙ ap (add_opaques c.loop-opaque.opaques) (sym c.in-Some.ensures)
      ∙ c.loop-opaque.invariant.same;
  small = omega (arith, add_opaque-size c.in-Some.opaque c.loop-opaque.opaques, ap opaques_size c.in_ok-add_opaque.ensures, ap opaques_size c.in-Some.ensures, c.loop-opaque.invariant.small);
}

pub returns : goal.returns
unfolding add_opaques
returns c = ap (add_opaques c.loop-opaque.opaques) (sym c.in_default.ensures) ∙ c.loop-opaque.invariant.same
