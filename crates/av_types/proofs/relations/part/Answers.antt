use Rattle.std.proofs.Common.{ap, arith, length, subst, sym}
use Rattle.av_shapes.specs.Shape.{AreSizes}
use Rattle.av_types.proofs.Sizes.{sizes_behind}
use Rattle.av_types.proofs.relations.part.Goals as goal

pub new-shape-requires : goal.new-shape-requires
new-shape-requires c =
    let are : AreSizes c.sizes.result.now = subst (λ ns. AreSizes ns) (sym c.sizes.ensures.value) c.sizes.ensures.bounds in
    let e = ap (λ ns. length ns) c.sizes.ensures.value in
    sizes_behind c.sizes.result.now c.args.positions are (omega arith)
