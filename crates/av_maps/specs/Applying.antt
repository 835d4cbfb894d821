-- A written map with the values of its operands, as an operation of a module has it: normalised.
use Rattle.std.specs.Prelude.{ℕ, List, map}
use Rattle.av_affine.specs.declared.expression.AffMap.{AffMap}
use Rattle.av_affine.specs.declared.expression.Expr.{Expr}
use Rattle.av_affine_laws.specs.Normalised.{Applied, Operands, normalised, parameter_for, renamed}
use Rattle.av_ir.specs.declared.module.ValueId.{ValueId}
use Rattle.av_maps.specs.declared.normal.MapUse.{MapUse}
use Rattle.av_maps.specs.declared.normal.Used.{Used}

-- the numbers of values, and the values of numbers
abbrev pub numbers : List ValueId → List ℕ
numbers values = map (λ value. value.0) values

abbrev pub value_of : ℕ → ValueId
value_of n = record { 0 = n }

abbrev pub use_of : Applied → MapUse
use_of a = record { map = a.map; operands = map value_of a.operands }

-- the normal form of a map and its operands
abbrev pub normal_use : AffMap → List ValueId → MapUse
normal_use m operands = use_of (normalised m (numbers operands))

-- values by kind
abbrev pub kinds : List ℕ → List ℕ → Operands
kinds dims syms = record { dims = dims; syms = syms }

abbrev pub used_kinds : Used → Operands
used_kinds used = kinds used.dims used.syms

-- an expression over the values that occur, whose numbers stand for those of the parameters
unfoldable pub renamed_by : List ℕ → List ℕ → Used → Expr → Expr
renamed_by dims syms used e = renamed (parameter_for (kinds dims syms) (used_kinds used)) e
