-- what is left to compare decides
use Rattle.std.proofs.Common.{◌≡◌, drop}
use Rattle.av_maps.specs.Names.{are_own}
use Rattle.av_maps.proofs.names.are_own.Given as goal

abbrev pub invariant-loop-at : goal.invariant-loop-at
invariant-loop-at l = are_own (drop l.at l.names) l.others ≡ are_own l.names l.others
