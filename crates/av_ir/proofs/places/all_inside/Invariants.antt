use Rattle.std.proofs.Common.{◌≡◌, drop}
use Rattle.av_ir.specs.Places.{are_inside}
use Rattle.av_ir.proofs.places.all_inside.Given as goal

abbrev pub invariant-loop-dimension : goal.invariant-loop-dimension
invariant-loop-dimension l =
    are_inside (drop l.dimension l.sizes) (drop l.dimension l.at) ≡ are_inside l.sizes l.at
