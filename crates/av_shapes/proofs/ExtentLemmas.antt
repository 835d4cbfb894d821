-- Extents of a shape at a scale, and how many elements it has.
use Rattle.std.proofs.Common.{◌≡◌, ℕ, ◌*◌, ◌<◌, ◌≤◌, Bool, true, false, List, length, get_or, arith, refl, slice_get, Some, ◌+◌, ◌^◌}
use Rattle.std.proofs.Math.Nat.{mul-le-mul}
use Rattle.std.proofs.lemmas.Option.{get_or_from_slice_get}
use Rattle.av_shapes.specs.Shape.{ShapeView, AreSizes, product}
use Rattle.av_shapes.specs.Places.{IsScale, IsWithin, extents, lanes}
use Rattle.av_shapes.proofs.Products.{length-scaled_last, product-scaled_last, le-product_first}
use Rattle.av_shapes.proofs.PlaceLemmas.{IsReadTo, as_many, read_more, found-below}

-- there is one extent for each size
length_at : (scalable : Bool) (sizes : List ℕ) (scale : ℕ)
    → length (extents (record { sizes = sizes; scalable = scalable }) scale) ≡ length sizes
length_at true sizes scale = length-scaled_last scale sizes
length_at false sizes scale = refl

pub length-extents : (v : ShapeView) (scale : ℕ) → length (extents v scale) ≡ length v.sizes
length-extents v scale = length_at v.scalable v.sizes scale

-- where the shape is scalable, all sizes together count times the scale
scalable_at : (scalable : Bool) (sizes : List ℕ) (scale : ℕ) → scalable ≡ true → 1 ≤ length sizes
    → lanes (record { sizes = sizes; scalable = scalable }) scale ≡ product sizes * scale
scalable_at true sizes scale e some = product-scaled_last scale sizes some
scalable_at false sizes scale e some = cc

pub lanes-scalable : (v : ShapeView) (scale : ℕ) → v.scalable ≡ true → 1 ≤ length v.sizes
    → lanes v scale ≡ product v.sizes * scale
lanes-scalable v scale e some = scalable_at v.scalable v.sizes scale e some

-- there are 1 to 256 elements, times the scale
bounds_at : (scalable : Bool) (sizes : List ℕ) (scale : ℕ) → AreSizes sizes → 1 ≤ scale
    → let v : ShapeView = record { sizes = sizes; scalable = scalable } in
    (1 ≤ lanes v scale) × (lanes v scale ≤ 256 * scale)
bounds_at true sizes scale are positive =
    let e = product-scaled_last scale sizes are.0 in
    let high : product sizes * scale ≤ 256 * scale = mul-le-mul are.3 (omega arith) in
    (omega (arith, le-product_first (product sizes) scale positive, are.2), omega arith)
bounds_at false sizes scale are positive =
    (are.2, omega (arith, le-product_first 256 scale positive, are.3))

pub lanes-bounds : (v : ShapeView) (scale : ℕ) → AreSizes v.sizes → 1 ≤ scale
    → (1 ≤ lanes v scale) × (lanes v scale ≤ 256 * scale)
lanes-bounds v scale are positive = bounds_at v.scalable v.sizes scale are positive

-- one more index of a tuple is read, and what is found fits
pub index_read : (v : ShapeView) (scale : ℕ) (at : List ℕ) (d found n : ℕ) → AreSizes v.sizes
    → IsScale scale → IsWithin (extents v scale) at → d < length v.sizes
    → slice_get (extents v scale) d ≡ Some n → IsReadTo (extents v scale) at d found
    → IsReadTo (extents v scale) at (d + 1) (found * n + get_or at d 0)
    × (found * n + get_or at d 0 < 2 ^ 32)
index_read v scale at d found n are is within below size read =
    let es = extents v scale in
    let count = length-extents v scale in
    let many = as_many es at within in
    let e = get_or_from_slice_get es d n 0 size in
    let more : IsReadTo es at (d + 1) (found * n + get_or at d 0) =
    rw e at (read_more es at d found (omega arith) (omega arith) read) in
    let lanes_fit = lanes-bounds v scale are is.0 in
    let below_lanes = found-below es at (d + 1) (found * n + get_or at d 0) lanes_fit.0 within more in
    (more, omega arith)
