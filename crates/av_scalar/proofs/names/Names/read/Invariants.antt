use Rattle.std.proofs.Common.{◌≡◌, take}
use Rattle.av_ir.specs.Run.{values_at}
use Rattle.av_scalar.specs.Names.{env_of, values}
use Rattle.av_scalar.proofs.names.Names.read.Given as goal

abbrev pub invariant-loop-id : goal.invariant-loop-id
invariant-loop-id l = values l.words ≡ values_at (env_of l.self) (take l.id-index l.ids)
