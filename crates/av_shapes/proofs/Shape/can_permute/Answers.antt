use Rattle.std.proofs.Common.{ℕ, below_more, Contains, nat_eq}
use Rattle.std.proofs.lemmas.List.Elements.{contains_decides}
use Rattle.std.specs.Cmp.{unsigned_Decides}
use Rattle.av_shapes.proofs.Shape.can_permute.Goals as goal

pub loop-dimension-preserved : goal.loop-dimension-preserved
loop-dimension-preserved c =
    let found = (contains_decides nat_eq unsigned_Decides c.args.order.now c.loop-dimension.dimension
    c.contains.result c.contains.ensures.cases).0 c.if-not-contains.false in
    let here : Contains c.args.order.now c.loop-dimension.dimension =
    (found.0, found.1, found.2 c.loop-dimension.dimension) in
    below_more (λ (d : ℕ). Contains c.args.order.now d) c.loop-dimension.dimension
    c.loop-dimension.invariant here
