-- How a `Shape` keeps its sizes. No public clause cites this module.
use Rattle.av_shapes.specs.Shape.{ShapeView, AreSizes}
use Rattle.av_shapes.specs.declared.Shape.TheInside.{Inside}

-- the sizes are the elements of the short list, and its room is left out
abbrev pub shape_view : Inside → ShapeView
shape_view s = record { sizes = s.dims.items; scalable = s.scalable }

-- the sizes are within the bounds of a shape
abbrev pub HasSizes : Inside → Type 0
HasSizes s = AreSizes s.dims.items
