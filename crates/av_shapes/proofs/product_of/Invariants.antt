use Rattle.std.proofs.Common.{◌≡◌, ◌≤◌, ◌*◌, ◌^◌, drop}
use Rattle.av_shapes.specs.Shape.{product}
use Rattle.av_shapes.proofs.product_of.Given as goal

abbrev pub invariant-loop-size : goal.invariant-loop-size
invariant-loop-size l =
    (l.all * product (drop l.size-index l.sizes) ≡ product l.sizes) × (l.all ≤ 65535 ^ l.size-index)
