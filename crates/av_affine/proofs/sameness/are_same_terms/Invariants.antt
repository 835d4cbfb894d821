use Rattle.std.proofs.Common.{◌≡◌, take, true}
use Rattle.av_affine.specs.Forms.{all_same, same_term}
use Rattle.av_affine.proofs.sameness.are_same_terms.Given as goal

abbrev pub invariant-loop-i : goal.invariant-loop-i
invariant-loop-i l = all_same same_term (take l.i l.xs) (take l.i l.ys) ≡ true
