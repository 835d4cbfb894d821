use Rattle.std.proofs.Common.{◌≡◌, drop, None}
use Rattle.av_affine.specs.Spelling.{plus_terms}
use Rattle.av_affine.proofs.spelling.spell_terms.Given as goal

abbrev pub invariant-loop-term : goal.invariant-loop-term
invariant-loop-term l = plus_terms l.sum (drop l.term-index l.terms) ≡ plus_terms None l.terms
