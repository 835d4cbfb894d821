use Rattle.std.proofs.Common.{◌≡◌, map, take}
use Rattle.av_totree.specs.Types.{type_of}
use Rattle.av_totree.proofs.types.type_texts.Given as goal

abbrev pub invariant-loop-ty : goal.invariant-loop-ty
invariant-loop-ty l = l.texts ≡ map type_of (take l.ty-index l.types)
