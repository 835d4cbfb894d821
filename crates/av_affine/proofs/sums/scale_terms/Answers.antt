use Rattle.std.proofs.Common.{rules, ap, ◌∙◌}
use Rattle.std.specs.Prelude.{◌*ℤ◌, FitsSigned}
use Rattle.std.proofs.lemmas.Int.{to_z-of_z}
use mir.Syntax.{w128}
use mir.Val.{to_z, of_z}
use Rattle.av_affine.specs.Forms.{scale_terms}
use Rattle.av_affine.proofs.Scaled.{term_scaled, term_room, term_less, all_scaled}
use Rattle.av_affine.proofs.sums.scale_terms.Goals as goal

pub product-factor-requires : goal.product-factor-requires
product-factor-requires c =
    let f : FitsSigned w128 c.in-Some.term.factor = search rules in
    rw (to_z-of_z w128 c.in-Some.term.factor f)
    (term_room (to_z w128 (of_z w128 c.args.by)) c.in-Some.term c.next.new.self c.loop-term.rest c.in-Some.ensures c.loop-term.invariant.small)

pub loop-term-preserved : goal.loop-term-preserved
loop-term-preserved c =
    let f : FitsSigned w128 c.in-Some.term.factor = search rules in
    let k : FitsSigned w128 c.product-factor.result = search rules in
    record {
      same =
          term_scaled (to_z w128 (of_z w128 c.args.by)) c.in-Some.term c.next.new.self c.loop-term.rest c.loop-term.scaled _ _ c.product-factor.result _
          c.in-Some.ensures c.loop-term.invariant.same
          (c.product-factor.ensures ∙ ap (λ v. v *ℤ (to_z w128 (of_z w128 c.args.by))) (to_z-of_z w128 c.in-Some.term.factor f))
          (to_z-of_z w128 c.product-factor.result k) c.in_ok-push_term.ensures;
      small = term_less (to_z w128 (of_z w128 c.args.by)) c.in-Some.term c.next.new.self c.loop-term.rest c.in-Some.ensures c.loop-term.invariant.small;
    }

pub returns : goal.returns
unfolding scale_terms
returns c =
    let g : FitsSigned w128 c.args.by = search rules in
    all_scaled c.loop-term.scaled _ _ (ap (scale_terms (to_z w128 (of_z w128 c.args.by))) c.in_default.ensures) c.loop-term.invariant.same
    ∙ ap (λ k. scale_terms k c.args.terms) (to_z-of_z w128 c.args.by g)
