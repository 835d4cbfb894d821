use Rattle.std.proofs.Common.{◌+◌, drop, rules, sym, ap, ◌∙◌, arith, None}
use Rattle.std.specs.Prelude.{FitsSigned}
use Rattle.std.proofs.lemmas.Int.{to_z-of_z}
use mir.Syntax.{w128}
use Rattle.av_affine.specs.declared.expression.Expr.TheVariants as expr
use Rattle.av_affine.specs.declared.linear.Linear.{out-Linear}
use Rattle.av_affine.specs.declared.linear.Opaque.{out-Opaque}
use Rattle.av_affine.specs.Spelling.{plus, plus_constant, plus_opaques, plus_terms, times, division, spelled, spelled_opaque}
use Rattle.av_affine.proofs.FormParts.{if_ok_same}
use Rattle.av_affine.proofs.Spelt.{spelled-opened, spelled_opaque-opened, opaques_on, opaques_end}
use Rattle.av_affine.proofs.spelling.+spelling.Goals as goal

pub spell-returns : goal.spell-returns
spell-returns t c =
    let f : FitsSigned w128 (out-Linear c.args.form.now).constant = search rules in
    if_ok_same c.with_constant.result _ _
    (ap (plus_constant c.in_ok-sum-2.sum) (to_z-of_z w128 (out-Linear c.args.form.now).constant f)
    ∙ ap (λ s. plus_constant s (out-Linear c.args.form.now).constant)
    (c.in_ok-sum-2.ensures ∙ ap (λ s. plus_opaques s c.as_slice-2.result.now) (c.in_ok-sum.ensures ∙ ap (plus_terms None) c.as_slice.ensures)
    ∙ ap (plus_opaques (plus_terms None (out-Linear c.args.form.now).terms)) c.as_slice-2.ensures)
    ∙ sym (spelled-opened c.args.form.now))
    c.with_constant.ensures

pub spell_opaque-returns : goal.spell_opaque-returns
spell_opaque-returns t c =
    let o = out-Opaque c.args.opaque.now in
    let f : FitsSigned w128 o.factor = search rules in
    let g : FitsSigned w128 o.by = search rules in
    if_ok_same c.with_factor.result _ _
    (ap (times c.division_of.result) (to_z-of_z w128 o.factor f)
    ∙ ap (λ e. times e o.factor)
    (c.division_of.ensures ∙ ap (λ a. division o.kind a c.in_ok-by.by) (c.in_ok-inner-2.ensures ∙ c.in_ok-inner.ensures)
    ∙ ap (division o.kind (spelled o.inner)) (c.in_ok-by.ensures ∙ ap (λ z. expr.Const z) (to_z-of_z w128 o.by g)))
    ∙ sym (spelled_opaque-opened c.args.opaque.now))
    c.with_factor.ensures

pub spell_opaques-loop-opaque-preserved : goal.spell_opaques-loop-opaque-preserved
spell_opaques-loop-opaque-preserved t c =
    ap (λ s. plus_opaques s (drop (c.loop-opaque.opaque-index + 1) c.args.opaques.now))
    (c.in_ok-sum.ensures ∙ ap (plus c.loop-opaque.sum) (c.in_ok-summand.ensures ∙ ap spelled_opaque c.opaque-item.is))
    ∙ opaques_on c.loop-opaque.sum c.args.opaques.now c.loop-opaque.opaque-index c.opaque-item.result c.loop-opaque-test.true
    ∙ c.loop-opaque.invariant

pub spell_opaques-returns : goal.spell_opaques-returns
spell_opaques-returns t c = sym (opaques_end c.loop-opaque.sum c.args.opaques.now c.loop-opaque.opaque-index (omega arith)) ∙ c.loop-opaque.invariant
