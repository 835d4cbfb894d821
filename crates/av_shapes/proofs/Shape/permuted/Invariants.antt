use Rattle.std.proofs.Common.{◌≡◌, take}
use Rattle.av_shapes.specs.Order.{permuted_sizes}
use Rattle.av_shapes.proofs.Shape.permuted.Given as goal

abbrev pub invariant-loop-dimension : goal.invariant-loop-dimension
invariant-loop-dimension l =
    (l.dims.items ≡ permuted_sizes l.self.sizes (take l.dimension-index l.order)) × (l.dims.capacity ≡ 3)
