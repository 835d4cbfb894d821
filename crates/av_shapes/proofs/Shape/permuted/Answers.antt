use Rattle.std.proofs.Common.{◌≡◌, arith, ap, ◌∙◌, ℕ, List, Bool}
use Rattle.std.proofs.lemmas.List.{take_all}
use Rattle.av_shapes.specs.Shape.{ShapeView}
use Rattle.av_shapes.specs.Order.{permuted_sizes}
use Rattle.av_shapes.specs.Places.{extents, lanes}
use Rattle.av_shapes.proofs.OrderLemmas.{permuted-AreSizes, extents-permuted, lanes-permuted}
use Rattle.av_shapes.proofs.Shape.permuted.Goals as goal

-- all sizes are there, in the order
sizes_made : (c : goal.After-loop-dimension)
    → c.loop-dimension.dims.items ≡ permuted_sizes c.args.self.now.sizes c.args.order.now
sizes_made c =
    c.loop-dimension.invariant.0
    ∙ ap (permuted_sizes c.args.self.now.sizes) (take_all c.loop-dimension.dimension-index c.args.order.now (omega arith))

pub invariant_of-result : goal.invariant_of-result
invariant_of-result c =
    rw (sizes_made c) (permuted-AreSizes c.args.self.now.sizes c.args.order.now c.sizes-sizes.ensures.bounds
    c.requires.permutation)

-- what the result shows
same_view : (sizes other : List ℕ) (scalable flag : Bool) → sizes ≡ other → scalable ≡ flag
    → let v : ShapeView = record { sizes = sizes; scalable = scalable } in
    v ≡ record { sizes = other; scalable = flag }
same_view sizes other scalable flag e f = cc

view_made : (c : goal.After-loop-dimension)
    → let v : ShapeView = record { sizes = c.loop-dimension.dims.items; scalable = c.self.inside.scalable } in
    v ≡ record { sizes = permuted_sizes c.args.self.now.sizes c.args.order.now; scalable = c.args.self.now.scalable }
view_made c =
    same_view c.loop-dimension.dims.items (permuted_sizes c.args.self.now.sizes c.args.order.now)
    c.self.inside.scalable c.args.self.now.scalable (sizes_made c) (ap (λ (v : ShapeView). v.scalable) c.self.view_is)

pub returns-clause-extents : goal.returns-clause-extents
returns-clause-extents c = λ scale.
    ap (λ (v : ShapeView). extents v scale) (view_made c)
    ∙ extents-permuted c.args.self.now c.args.order.now scale c.sizes-sizes.ensures.bounds c.requires

pub returns-clause-lanes : goal.returns-clause-lanes
returns-clause-lanes c = λ scale.
    ap (λ (v : ShapeView). lanes v scale) (view_made c)
    ∙ lanes-permuted c.args.self.now c.args.order.now scale c.sizes-sizes.ensures.bounds c.requires
