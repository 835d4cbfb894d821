use Rattle.std.proofs.Common.{◌≡◌, take}
use Rattle.av_values.proofs.loops.copied.Given as goal

abbrev pub invariant-loop-ty : goal.invariant-loop-ty
invariant-loop-ty l = l.list ≡ take l.ty-index l.types
