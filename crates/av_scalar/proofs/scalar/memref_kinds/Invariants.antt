use Rattle.std.proofs.Common.{◌≡◌, ◌++◌, drop}
use Rattle.av_ir.specs.Run.{types_at}
use Rattle.av_ir.specs.ScalarRun.{memref_types}
use Rattle.av_scalar.proofs.scalar.memref_kinds.Given as goal

-- the types so far, and those to come
abbrev pub invariant-loop-id : goal.invariant-loop-id
invariant-loop-id l = l.kinds ++ memref_types (types_at l.types (drop l.id-index l.ids)) ≡ memref_types (types_at l.types l.ids)
