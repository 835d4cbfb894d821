use Rattle.std.proofs.Common.{◌≡◌, ◌++◌, drop}
use Rattle.av_ir.specs.Marks.{inner_among}
use Rattle.av_ir.proofs.marking.push_inner.Given as goal

abbrev pub invariant-loop-place : goal.invariant-loop-place
invariant-loop-place l =
    l.inner ++ inner_among l.func l.place (drop l.place l.flags) ≡ l.initial.inner ++ inner_among l.func l.first (drop l.first l.flags)
