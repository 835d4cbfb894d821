use Rattle.std.proofs.Common.{◌≡◌, take, map}
use Rattle.av_ir.specs.Memory.{buffer_at}
use Rattle.av_ir.proofs.binding.ended.Given as goal

abbrev pub invariant-loop-place : goal.invariant-loop-place
invariant-loop-place l = l.buffers ≡ map (buffer_at l.memory) (take l.place-index l.place-items)
