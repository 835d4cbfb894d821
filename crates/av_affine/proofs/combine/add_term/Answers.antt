use Rattle.std.proofs.Common.{◌<◌, length, arith, ap, sym, ◌∙◌, subst}
use Rattle.av_affine.specs.Forms.{add_term}
use Rattle.av_affine.specs.Places.{term_raised}
use Rattle.av_affine.proofs.Bounded.{kept}
use Rattle.av_affine.proofs.TermPlaces.{term_within}
use Rattle.av_affine.proofs.combine.add_term.Goals as goal

pub raise_term-requires-clause-bound : goal.raise_term-requires-clause-bound
raise_term-requires-clause-bound c d =
    let within = term_within c.args.terms.now c.in-Ok.at d (subst (λ us. c.in-Ok.at < length us) c.as_slice.ensures c.in-Ok.ensures.0) in
    rw (kept c.args.term.factor (omega arith)) (omega arith)

pub returns-in-Ok : goal.returns-in-Ok
returns-in-Ok c =
    c.raise_term.ensures c.args.term
    ∙ ap (term_raised c.args.terms.now c.in-Ok.at c.args.term) (kept c.args.term.factor (omega arith))
    ∙ ap (λ us. term_raised us c.in-Ok.at c.args.term c.args.term.factor) (sym c.as_slice.ensures)
    ∙ sym (c.in-Ok.ensures.1 c.args.term.factor c.args.term)
    ∙ ap (λ us. add_term c.args.term us) c.as_slice.ensures
