-- The values of types, and the arguments that suit a function.
use Rattle.std.specs.Prelude.{◌≡◌, ℕ, ◌+◌, ◌^◌, ◌<◌, ◌≤◌, List, [], ◌∷◌, length, Option, Some, None, slice_get}
use Rattle.std.specs.List.{All, AllZip}
use Rattle.av_bits.specs.declared.types.Width.{Width}
use Rattle.av_bits.specs.declared.types.Width.TheVariants.{W64}
use Rattle.av_bits.specs.Pattern.{IsPattern}
use Rattle.av_shapes.specs.Shape.{product}
use Rattle.av_ir.specs.declared.ty.Elem.{Elem}
use Rattle.av_ir.specs.declared.ty.Elem.TheVariants.{Int, Index}
use Rattle.av_ir.specs.declared.ty.Extent.{Extent}
use Rattle.av_ir.specs.declared.ty.Extent.TheVariants.{Fixed, Dyn}
use Rattle.av_ir.specs.declared.ty.Ty.{Ty}
use Rattle.av_ir.specs.declared.ty.Ty.TheVariants.{Scalar, MemRef, Vector}
use Rattle.av_ir.specs.declared.run.Buffer.{Buffer}
use Rattle.av_ir.specs.declared.run.Arg.{Arg}
use Rattle.av_ir.specs.declared.run.Arg.TheVariants.{Word, Buf}
use Rattle.av_ir.specs.declared.run.Args.{Args}
use Rattle.av_ir.specs.declared.module.ValueId.{ValueId}
use Rattle.av_ir.specs.declared.module.Func.{Func}
use Rattle.av_ir.specs.declared.module.Region.{out-Region}

-- the width of an element type; `index` has 64 bits
abbrev pub width_of : Elem → Width
width_of (Int width) = width
width_of Index = W64

-- a pattern of an element type: a number below 2 to its width
abbrev pub IsValue : Elem → ℕ → Type 0
IsValue elem p = IsPattern (width_of elem) p

-- a size of a buffer agrees with an extent: a number fixes it, and `?` takes any
abbrev pub Agrees : Extent → ℕ → Type 0
Agrees (Fixed extent) size = size ≡ extent
Agrees Dyn size = Unit {0}

-- a buffer of a memref type: its sizes agree with the extents and are below 2 ^ 64, at most 2 ^ 63 where
-- it has an element; it has as many elements as the product of its sizes, each a pattern of the element type
pub record IsBuffer (extents : List Extent) (elem : Elem) (b : Buffer) : Type 0 where
  pub agree : AllZip Agrees extents b.sizes
  pub below : All (λ size. size < 2 ^ 64) b.sizes
  pub half : 0 < product b.sizes → All (λ size. size ≤ 2 ^ 63) b.sizes
  pub as_many : length b.cells ≡ product b.sizes
  pub patterns : All (IsValue elem) b.cells

-- an argument suits a type: a pattern of a scalar type, or a buffer of a memref type
abbrev pub SuitsType : Ty → Arg → Type 0
SuitsType (Scalar elem) (Word p) = IsValue elem p
SuitsType (Scalar elem) (Buf b) = ⊥
SuitsType (MemRef extents elem) (Word p) = ⊥
SuitsType (MemRef extents elem) (Buf b) = IsBuffer extents elem b
SuitsType (Vector shape elem) arg = ⊥

-- an argument suits a value of a table of types; nothing suits one that isn't there
abbrev pub SuitsOption : Option Ty → Arg → Type 0
SuitsOption (Some ty) arg = SuitsType ty arg
SuitsOption None arg = ⊥

abbrev pub SuitsValue : List Ty → ValueId → Arg → Type 0
SuitsValue types id arg = SuitsOption (slice_get types id.0) arg

-- the arguments suit the function: one for each of its own, of its type
abbrev pub Suits : Func → Args → Type 0
Suits f args = AllZip (SuitsValue f.values) (out-Region f.body).args args.list

-- the number of elements of the buffers among arguments
abbrev pub elements_of : Arg → ℕ
elements_of (Word p) = 0
elements_of (Buf b) = length b.cells

abbrev pub elements : List Arg → ℕ
elements [] = 0
elements (arg ∷ args) = elements_of arg + elements args

-- what a run may be given: arguments that suit, with at most 2 ^ 26 elements in all
pub record Fits (f : Func) (args : Args) : Type 0 where
  pub suit : Suits f args
  pub few : elements args.list ≤ 2 ^ 26
