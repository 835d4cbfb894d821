-- What every module of this type keeps, as far as a run needs it, and which modules are of Scalar mode.
use Rattle.std.specs.Prelude.{ℕ, ◌<◌, ◌≤◌, List, length}
use Rattle.std.specs.List.{All}
use Rattle.av_affine.specs.declared.expression.AffMap.{AffMap}
use Rattle.av_affine.specs.declared.expression.AffSet.{AffSet}
use Rattle.av_affine.specs.Limits.{Admissible}
use Rattle.av_ir.specs.declared.ty.Ty.{Ty}
use Rattle.av_ir.specs.declared.ty.Ty.TheVariants.{Scalar, MemRef, Vector}
use Rattle.av_ir.specs.declared.module.ValueId.{ValueId}
use Rattle.av_ir.specs.declared.module.OpKind.{OpKind}
use Rattle.av_ir.specs.declared.module.OpKind.TheVariants.{AffineFor, AffineIf, AffineApply, AffineMin, AffineMax, AffineLoad, AffineStore, ScfFor, ScfYield, VectorLoad, VectorStore, VectorMaskedLoad, VectorMaskedStore, VectorGather, VectorScatter, VectorBroadcast, VectorCreateMask, VectorReduction, VectorExtract, VectorInsert, VectorShuffle, VectorStep, VectorVscale}
use Rattle.av_ir.specs.declared.module.Op.{Op, Op-F, every-Op}
use Rattle.av_ir.specs.declared.module.Region.{Region, Region-F, every-Region}
use Rattle.av_ir.specs.declared.module.Func.{Func}
use Rattle.av_ir.specs.declared.module.Module.{Module}

-- a map of at most 8 results, each affine and within the limits of its size
abbrev pub IsUsable : AffMap → Type 0
IsUsable m = All Admissible m.results × (length m.results ≤ 8)

-- a set of at most 64 rows, each affine and within the limits of its size
abbrev pub IsUsableSet : AffSet → Type 0
IsUsableSet set = All (λ row. Admissible row.left) set.rows × (length set.rows ≤ 64)

-- the maps and the set of an operation can be evaluated
abbrev pub HasUsableMaps : OpKind → Type 0
HasUsableMaps (AffineFor lower upper step) = IsUsable lower × IsUsable upper
HasUsableMaps (AffineIf set) = IsUsableSet set
HasUsableMaps (AffineApply m) = IsUsable m
HasUsableMaps (AffineMin m) = IsUsable m
HasUsableMaps (AffineMax m) = IsUsable m
HasUsableMaps (AffineLoad m) = IsUsable m
HasUsableMaps (AffineStore m) = IsUsable m
HasUsableMaps kind = Unit {0}

-- values of a function that has so many
abbrev pub AreValues : ℕ → List ValueId → Type 0
AreValues count ids = All (λ id. id.0 < count) ids

-- an operation's maps can be evaluated, and it defines values of the function
abbrev pub OpIsWellFormed : ℕ → Op-F Op Region → Type 0
OpIsWellFormed count op = HasUsableMaps op.kind × AreValues count op.results

abbrev pub RegionIsWellFormed : ℕ → Region-F Op Region → Type 0
RegionIsWellFormed count region = AreValues count region.args

-- the same of it and all inside
unfoldable pub IsWellFormedOp : ℕ → Op → Type 0
IsWellFormedOp count = every-Op (OpIsWellFormed count) (RegionIsWellFormed count)

unfoldable pub IsWellFormedRegion : ℕ → Region → Type 0
IsWellFormedRegion count = every-Region (OpIsWellFormed count) (RegionIsWellFormed count)

-- all operations of a function are well formed
abbrev pub IsWellFormedFunc : Func → Type 0
IsWellFormedFunc f = IsWellFormedRegion (length f.values) f.body

abbrev pub WellFormed : Module → Type 0
WellFormed m = All IsWellFormedFunc m.funcs

-- ---- Scalar mode
-- the kinds of operations that Scalar mode has
abbrev pub IsScalarKind : OpKind → Type 0
IsScalarKind ScfFor = ⊥
IsScalarKind ScfYield = ⊥
IsScalarKind VectorLoad = ⊥
IsScalarKind VectorStore = ⊥
IsScalarKind VectorMaskedLoad = ⊥
IsScalarKind VectorMaskedStore = ⊥
IsScalarKind VectorGather = ⊥
IsScalarKind VectorScatter = ⊥
IsScalarKind VectorBroadcast = ⊥
IsScalarKind VectorCreateMask = ⊥
IsScalarKind (VectorReduction kind) = ⊥
IsScalarKind (VectorExtract at) = ⊥
IsScalarKind (VectorInsert at) = ⊥
IsScalarKind (VectorShuffle picks) = ⊥
IsScalarKind VectorStep = ⊥
IsScalarKind VectorVscale = ⊥
IsScalarKind kind = Unit {0}

-- a type of one element, or of a buffer
abbrev pub IsNoVector : Ty → Type 0
IsNoVector (Scalar elem) = Unit {0}
IsNoVector (MemRef extents elem) = Unit {0}
IsNoVector (Vector shape elem) = ⊥

-- no value of the function is a vector
abbrev pub HasNoVector : Func → Type 0
HasNoVector f = All IsNoVector f.values

abbrev pub OpIsScalar : Op-F Op Region → Type 0
OpIsScalar op = IsScalarKind op.kind

abbrev pub AnyRegion : Region-F Op Region → Type 0
AnyRegion region = Unit {0}

-- an operation and all inside are of Scalar mode
unfoldable pub IsScalarOp : Op → Type 0
IsScalarOp = every-Op OpIsScalar AnyRegion

unfoldable pub IsScalarRegion : Region → Type 0
IsScalarRegion = every-Region OpIsScalar AnyRegion

-- a function has operations and types of Scalar mode alone
pub record IsScalarFunc (f : Func) : Type 0 where
  pub types : HasNoVector f
  pub ops : IsScalarRegion f.body

abbrev pub IsScalarModule : Module → Type 0
IsScalarModule m = All IsScalarFunc m.funcs
