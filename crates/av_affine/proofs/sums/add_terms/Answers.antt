use Rattle.std.proofs.Common.{arith, ap, sym, ◌∙◌}
use Rattle.av_affine.specs.Forms.{add_terms}
use Rattle.av_affine.specs.Sizes.{terms_size}
use Rattle.av_affine.proofs.Sizes.{add_term-size}
use Rattle.av_affine.proofs.sums.add_terms.Goals as goal

pub add_term-requires : goal.add_term-requires
unfolding terms_size
add_term-requires c = omega (arith, ap terms_size c.in-Some.ensures, c.loop-term.invariant.small)

pub loop-term-preserved : goal.loop-term-preserved
unfolding add_terms terms_size
loop-term-preserved c = record {
  same =
      ap (λ ps. add_terms ps c.next.new.self) c.in_ok-add_term.ensures ∙ ap (add_terms c.loop-term.terms) (sym c.in-Some.ensures)
      ∙ c.loop-term.invariant.same;
  small = omega (arith, add_term-size c.in-Some.term c.loop-term.terms, ap terms_size c.in_ok-add_term.ensures, ap terms_size c.in-Some.ensures, c.loop-term.invariant.small);
}

pub returns : goal.returns
unfolding add_terms
returns c = ap (add_terms c.loop-term.terms) (sym c.in_default.ensures) ∙ c.loop-term.invariant.same
