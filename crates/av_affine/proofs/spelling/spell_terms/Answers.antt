use Rattle.std.proofs.Common.{◌+◌, get_or, drop, rules, sym, ap, ◌∙◌, arith}
use Rattle.std.specs.Prelude.{pos, FitsSigned}
use Rattle.std.proofs.lemmas.Int.{to_z-of_z}
use mir.Syntax.{w128}
use Rattle.av_affine.specs.declared.expression.Leaf.TheVariants.{Dim}
use Rattle.av_affine.specs.declared.expression.Expr.TheVariants as expr
use Rattle.av_affine.specs.declared.linear.Term.{Term}
use Rattle.av_affine.specs.Spelling.{plus, plus_terms, times}
use Rattle.av_affine.proofs.Spelt.{terms_on, terms_end}
use Rattle.av_affine.proofs.spelling.spell_terms.Goals as goal

pub loop-term-preserved : goal.loop-term-preserved
loop-term-preserved c =
    let none : Term = record { leaf = Dim 0; factor = pos 0 } in
    let term : Term = get_or c.args.terms.now c.loop-term.term-index none in
    let f : FitsSigned w128 term.factor = search rules in
    ap (λ s. plus_terms s (drop (c.loop-term.term-index + 1) c.args.terms.now))
    (c.in_ok-sum.ensures ∙ ap (plus c.loop-term.sum) (c.in_ok-summand.ensures ∙ ap (times (expr.Param term.leaf)) (to_z-of_z w128 term.factor f)))
    ∙ terms_on c.loop-term.sum c.args.terms.now c.loop-term.term-index none c.loop-term-test.true
    ∙ c.loop-term.invariant

pub returns : goal.returns
returns c = sym (terms_end c.loop-term.sum c.args.terms.now c.loop-term.term-index (omega arith)) ∙ c.loop-term.invariant
