use Rattle.std.proofs.Common.{rules, ap, ◌∙◌}
use Rattle.std.specs.Prelude.{◌*ℤ◌, FitsSigned}
use Rattle.std.proofs.lemmas.Int.{to_z-of_z}
use mir.Syntax.{w128}
use mir.Val.{to_z, of_z}
use Rattle.av_affine.specs.declared.linear.Opaque.{out-Opaque}
use Rattle.av_affine.specs.Forms.{scale_opaques}
use Rattle.av_affine.proofs.Scaled.{opaque_scaled, opaque_room, opaque_less, all_scaled}
use Rattle.av_affine.proofs.sums.scale_opaques.Goals as goal

pub product-factor-requires : goal.product-factor-requires
product-factor-requires c =
    let f : FitsSigned w128 (out-Opaque c.in-Some.opaque).factor = search rules in
    rw (to_z-of_z w128 (out-Opaque c.in-Some.opaque).factor f)
    (opaque_room (to_z w128 (of_z w128 c.args.by)) c.in-Some.opaque c.next.new.self c.loop-opaque.rest c.in-Some.ensures c.loop-opaque.invariant.small)

pub loop-opaque-preserved : goal.loop-opaque-preserved
loop-opaque-preserved c =
    let f : FitsSigned w128 (out-Opaque c.in-Some.opaque).factor = search rules in
    let k : FitsSigned w128 c.product-factor.result = search rules in
    record {
      same =
          opaque_scaled (to_z w128 (of_z w128 c.args.by)) c.in-Some.opaque c.next.new.self c.loop-opaque.rest c.loop-opaque.scaled _ _ c.product-factor.result _
          c.in-Some.ensures c.loop-opaque.invariant.same
          (c.product-factor.ensures ∙ ap (λ v. v *ℤ (to_z w128 (of_z w128 c.args.by))) (to_z-of_z w128 (out-Opaque c.in-Some.opaque).factor f))
          (to_z-of_z w128 c.product-factor.result k) c.in_ok-push_opaque.ensures;
      small = opaque_less (to_z w128 (of_z w128 c.args.by)) c.in-Some.opaque c.next.new.self c.loop-opaque.rest c.in-Some.ensures c.loop-opaque.invariant.small;
    }

pub returns : goal.returns
unfolding scale_opaques
returns c =
    let g : FitsSigned w128 c.args.by = search rules in
    all_scaled c.loop-opaque.scaled _ _ (ap (scale_opaques (to_z w128 (of_z w128 c.args.by))) c.in_default.ensures) c.loop-opaque.invariant.same
    ∙ ap (λ k. scale_opaques k c.args.opaques) (to_z-of_z w128 c.args.by g)
