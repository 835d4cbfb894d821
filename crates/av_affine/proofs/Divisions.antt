-- The laws of the divisions.
use Rattle.std.proofs.Common.{◌≡◌, zero, suc, ◌%◌, ◌<◌, arith}
use Rattle.std.specs.Prelude.{ℤ, pos, negsuc, neg_ℤ, ◌*ℤ◌}
use Rattle.std.proofs.lemmas.Int.{ints}
use Rattle.std.proofs.lemmas.Nat.{mod_below, div-add-mod'}
use Rattle.av_affine.specs.Values.{floor_quotient, ceil_quotient}
use Rattle.av_affine.specs.Divisions.{RemainderLaw, FloorLaw, CeilLaw}

pub remainder-law : RemainderLaw
remainder-law (pos a) (pos d) h =
    let e = div-add-mod' a d in
    let l : a % d < d = mod_below a d (omega (arith, ints)) in
    (omega (arith, ints), omega (arith, ints), omega (arith, ints))
remainder-law (negsuc a) (pos d) h =
    let e = div-add-mod' a d in
    let l : a % d < d = mod_below a d (omega (arith, ints)) in
    (omega (arith, ints), omega (arith, ints), omega (arith, ints))
remainder-law x (negsuc d) h = absurd (omega (arith, ints))

pub floor-law : FloorLaw
floor-law x d h = let r = remainder-law x d h in (omega (arith, ints), omega (arith, ints))

neg-mul : (q d : ℤ) → neg_ℤ q *ℤ d ≡ neg_ℤ (q *ℤ d)
neg-mul (pos zero) (pos m) = omega (arith, ints)
neg-mul (pos zero) (negsuc m) = omega (arith, ints)
neg-mul (pos (suc n)) (pos m) = omega (arith, ints)
neg-mul (pos (suc n)) (negsuc m) = omega (arith, ints)
neg-mul (negsuc n) (pos m) = omega (arith, ints)
neg-mul (negsuc n) (negsuc m) = omega (arith, ints)

pub ceil-law : CeilLaw
ceil-law x d h =
    let r = floor-law (neg_ℤ x) d h in
    let e : ceil_quotient x d *ℤ d ≡ neg_ℤ (floor_quotient (neg_ℤ x) d *ℤ d) = neg-mul (floor_quotient (neg_ℤ x) d) d in
    (rw e (omega (arith, ints)), rw e (omega (arith, ints)))
