-- each list is read up to the place of the loop
use Rattle.std.proofs.Common.{◌≡◌, ◌++◌, take}
use Rattle.std.specs.List.{flat_map}
use Rattle.av_ir.specs.Marks.{op_flags, region_flags}
use Rattle.av_ir.proofs.marking.+flagging.Given as goal

abbrev pub invariant-flag_ops-loop-op : goal.invariant-flag_ops-loop-op
invariant-flag_ops-loop-op l = l.flags ≡ l.initial.flags ++ flat_map op_flags (take l.op-index l.ops)

abbrev pub invariant-flag_regions-loop-region : goal.invariant-flag_regions-loop-region
invariant-flag_regions-loop-region l = l.flags ≡ l.initial.flags ++ flat_map region_flags (take l.region-index l.regions)
