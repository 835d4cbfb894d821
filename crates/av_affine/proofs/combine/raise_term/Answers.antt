use Rattle.std.proofs.Common.{◌≤◌, ◌+◌, ◌^◌, List, get_or, rules, arith, ap, sym, ◌∙◌, subst}
use Rattle.std.specs.Prelude.{pos, unsigned_abs, FitsSigned}
use Rattle.std.proofs.lemmas.Int.{to_z-of_z}
use mir.Syntax.{w128}
use mir.Val.{of_z}
use Rattle.av_affine.specs.declared.expression.Leaf.TheVariants.{Dim}
use Rattle.av_affine.specs.declared.linear.Term.{Term}
use Rattle.av_affine.proofs.Bounded.{kept}
use Rattle.av_affine.proofs.TermPlaces.{term_back_from}
use Rattle.av_affine.proofs.combine.raise_term.Goals as goal

pub returns-else-factor-eq0 : goal.returns-else-factor-eq0
returns-else-factor-eq0 c d =
    let sum_fits : FitsSigned w128 c.sum-factor.result = search rules in
    let more_fits : FitsSigned w128 c.args.more = search rules in
    let none : Term = record { leaf = Dim 0; factor = pos 0 } in
    let found : Term = get_or c.as_slice.result.now c.args.at none in
    let bound : unsigned_abs found.factor + unsigned_abs c.args.more ≤ 2 ^ 110 =
    subst (λ (us : List Term). unsigned_abs (get_or us c.args.at none).factor + unsigned_abs c.args.more ≤ 2 ^ 110) (sym c.as_slice.ensures)
    (c.requires.bound none) in
    let sums = rw (kept found.factor (omega arith), to_z-of_z w128 c.args.more more_fits) at c.sum-factor.ensures in
    c.set.ensures
    ∙ term_back_from c.args.terms.now c.as_slice.result.now c.as_slice.ensures c.args.at none d c.args.more c.sum-factor.result _
    c.requires.place sums (to_z-of_z w128 c.sum-factor.result sum_fits) (λ e. c.if-factor-eq0.false (ap (of_z w128) e))
