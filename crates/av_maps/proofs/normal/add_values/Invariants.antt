-- the values up to the place of the loop are added
use Rattle.std.proofs.Common.{◌≡◌, ◌++◌, take}
use Rattle.std.specs.Prelude.{map}
use Rattle.av_maps.specs.Applying.{value_of}
use Rattle.av_maps.proofs.normal.add_values.Given as goal

abbrev pub invariant-loop-number : goal.invariant-loop-number
invariant-loop-number l = l.values ≡ l.fn.values ++ map value_of (take l.number-index l.numbers)
