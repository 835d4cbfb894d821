use Rattle.std.proofs.Common.{take}
use Rattle.std.specs.List.{All}
use Rattle.av_affine.specs.Values.{leaves}
use Rattle.av_affine.specs.Results.{RowHolds}
use Rattle.av_affine.proofs.results.holds.Given as goal

abbrev pub invariant-loop-row : goal.invariant-loop-row
invariant-loop-row l = All (RowHolds (leaves l.dims l.syms)) (take l.row-index l.set.rows)
