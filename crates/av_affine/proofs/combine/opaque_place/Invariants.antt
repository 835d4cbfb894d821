use Rattle.std.proofs.Common.{◌≡◌, ◌++◌, take, drop}
use Rattle.av_affine.specs.Forms.{add_opaque}
use Rattle.av_affine.proofs.combine.opaque_place.Given as goal

abbrev pub invariant-loop-at : goal.invariant-loop-at
invariant-loop-at l = add_opaque l.opaque l.opaques ≡ take l.at l.opaques ++ add_opaque l.opaque (drop l.at l.opaques)
