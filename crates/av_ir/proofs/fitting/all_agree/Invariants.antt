use Rattle.std.proofs.Common.{◌↔◌, drop}
use Rattle.std.specs.List.{AllZip}
use Rattle.av_ir.specs.Values.{Agrees}
use Rattle.av_ir.proofs.fitting.all_agree.Given as goal

abbrev pub invariant-loop-dimension : goal.invariant-loop-dimension
invariant-loop-dimension l =
    AllZip Agrees (drop l.dimension l.extents) (drop l.dimension l.sizes) ↔ AllZip Agrees l.extents l.sizes
