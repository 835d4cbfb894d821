-- each list is copied up to the place of the loop
use Rattle.std.proofs.Common.{◌≡◌, take}
use Rattle.av_ir.proofs.module.+copying.Given as goal

abbrev pub invariant-copy_ops-loop-op : goal.invariant-copy_ops-loop-op
invariant-copy_ops-loop-op l = l.copies ≡ take l.op-index l.ops

abbrev pub invariant-copy_regions-loop-region : goal.invariant-copy_regions-loop-region
invariant-copy_regions-loop-region l = l.copies ≡ take l.region-index l.regions
