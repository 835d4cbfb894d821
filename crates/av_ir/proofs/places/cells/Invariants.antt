use Rattle.std.proofs.Common.{◌≡◌, ◌-◌, ◌^◌, min, take}
use Rattle.av_shapes.specs.Shape.{product}
use Rattle.av_ir.proofs.places.cells.Given as goal

abbrev pub invariant-loop-size : goal.invariant-loop-size
invariant-loop-size l = l.all ≡ min (product (take l.size-index l.sizes)) (2 ^ 64 - 1)
