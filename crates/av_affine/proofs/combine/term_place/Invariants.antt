use Rattle.std.proofs.Common.{◌≡◌, ◌++◌, take, drop, ℤ}
use Rattle.av_affine.specs.Forms.{add_term}
use Rattle.av_affine.proofs.combine.term_place.Given as goal

abbrev pub invariant-loop-at : goal.invariant-loop-at
invariant-loop-at l =
    (f : ℤ) → add_term (record { leaf = l.leaf; factor = f }) l.terms ≡ take l.at l.terms ++ add_term (record { leaf = l.leaf; factor = f }) (drop l.at l.terms)
