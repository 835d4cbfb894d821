use Rattle.std.proofs.Common.{◌≡◌, ◌++◌, length, drop}
use Rattle.av_ir.specs.Marks.{inner_from}
use Rattle.av_ir.proofs.marking.inner_loops.Given as goal

abbrev pub invariant-loop-place : goal.invariant-loop-place
invariant-loop-place l = l.inner ++ inner_from l.place (length l.flags) (drop l.place l.func-items) ≡ inner_from 0 0 l.func-items
