use Rattle.std.proofs.Common.{◌≡◌, map, take}
use Rattle.av_totree.specs.Maps.{row_of}
use Rattle.av_totree.proofs.maps.row_texts.Given as goal

abbrev pub invariant-loop-row : goal.invariant-loop-row
invariant-loop-row l = l.texts ≡ map row_of (take l.row-index l.rows)
