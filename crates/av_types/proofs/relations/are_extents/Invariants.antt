-- what is left to compare decides
use Rattle.std.proofs.Common.{◌≡◌, drop}
use Rattle.std.specs.Cmp.Lexicographic.{pointwise}
use Rattle.av_types.specs.Relations.{is_extent}
use Rattle.av_types.proofs.relations.are_extents.Given as goal

abbrev pub invariant-loop-at : goal.invariant-loop-at
invariant-loop-at l = pointwise is_extent (drop l.at l.extents) (drop l.at l.others) ≡ pointwise is_extent l.extents l.others
