-- the rows up to the place of the loop have numbers
use Rattle.std.proofs.Common.{◌≡◌, take}
use Rattle.std.specs.Prelude.{map}
use Rattle.av_maps.specs.Written.{row_of}
use Rattle.av_maps.proofs.written.set_of.Given as goal

abbrev pub invariant-loop-row : goal.invariant-loop-row
invariant-loop-row l = l.rows ≡ map (row_of l.dims l.syms) (take l.row-index l.text.rows)
