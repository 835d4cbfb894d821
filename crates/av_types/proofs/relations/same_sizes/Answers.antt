use Rattle.std.proofs.Common.{◌∙◌, ap, sym, List}
use Rattle.av_ir.specs.declared.ty.Extent.{Extent}
use Rattle.av_ir.specs.declared.ty.Ty.{Ty}
use Rattle.av_ir.specs.declared.ty.Ty.TheVariants.{MemRef}
use Rattle.av_types.specs.Relations.{same_sizes}
use Rattle.av_types.proofs.relations.same_sizes.Goals as goal

pub returns-in-MemRef : goal.returns-in-MemRef
returns-in-MemRef c =
    c.has_extents.ensures c.in-MemRef.elem
    ∙ ap (λ (x : List Extent). same_sizes (MemRef x c.in-MemRef.elem) c.args.b.now) c.as_slice.ensures
    ∙ ap (λ (t : Ty). same_sizes t c.args.b.now) (sym c.in-MemRef.is)

pub returns-in-Vector : goal.returns-in-Vector
returns-in-Vector c = c.has_shape.ensures c.in-Vector.elem ∙ ap (λ (t : Ty). same_sizes t c.args.b.now) (sym c.in-Vector.is)
