-- the numbers of the values up to the place of the loop
use Rattle.std.proofs.Common.{◌≡◌, take}
use Rattle.av_maps.specs.Applying.{numbers}
use Rattle.av_maps.proofs.normal.numbers.Given as goal

abbrev pub invariant-loop-value : goal.invariant-loop-value
invariant-loop-value l = l.numbers ≡ numbers (take l.value-index l.values)
