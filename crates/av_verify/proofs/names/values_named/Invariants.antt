-- the values of the names up to the place of the loop
use Rattle.std.proofs.Common.{◌≡◌, take}
use Rattle.av_verify.specs.Names.{values_named}
use Rattle.av_verify.proofs.names.values_named.Given as goal

abbrev pub invariant-loop-name : goal.invariant-loop-name
invariant-loop-name l = l.values ≡ values_named l.names (take l.name-index l.used)
