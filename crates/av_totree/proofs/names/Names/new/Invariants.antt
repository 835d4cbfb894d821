use Rattle.std.proofs.Common.{◌≡◌, map, take}
use Rattle.std.specs.Prelude.{codes}
use Rattle.av_totree.proofs.names.Names.new.Given as goal

abbrev pub invariant-loop-ty : goal.invariant-loop-ty
invariant-loop-ty l = l.names ≡ map (λ ty. codes "%") (take l._ty-index l.types)
