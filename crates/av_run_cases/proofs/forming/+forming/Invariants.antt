use Rattle.std.proofs.Common.{take}
use Rattle.std.specs.List.{All}
use Rattle.av_ir.specs.WellFormed.{IsWellFormedOp, IsWellFormedRegion}
use Rattle.av_run_cases.proofs.forming.+forming.Given as goal

abbrev pub invariant-are_formed_regions-loop-region : goal.invariant-are_formed_regions-loop-region
invariant-are_formed_regions-loop-region l = All (IsWellFormedRegion l.count) (take l.region-index l.regions)

abbrev pub invariant-are_formed_ops-loop-op : goal.invariant-are_formed_ops-loop-op
invariant-are_formed_ops-loop-op l = All (IsWellFormedOp l.count) (take l.op-index l.ops)
