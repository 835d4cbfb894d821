use Rattle.std.proofs.Common.{◌≡◌, take, true}
use Rattle.av_affine.specs.Forms.{all_same, same_opaque}
use Rattle.av_affine.proofs.sameness.+comparing.Given as goal

abbrev pub invariant-are_same_opaques-loop-i : goal.invariant-are_same_opaques-loop-i
invariant-are_same_opaques-loop-i l = all_same same_opaque (take l.i l.xs) (take l.i l.ys) ≡ true
