-- Operations of a module, by their parts.
use Rattle.std.specs.Prelude.{ℕ, List, None, false}
use Rattle.av_ir.specs.declared.module.ValueId.{ValueId}
use Rattle.av_ir.specs.declared.module.Marks.{Marks}
use Rattle.av_ir.specs.declared.module.OpKind.{OpKind}
use Rattle.av_ir.specs.declared.module.Op.{Op, roll-Op}
use Rattle.av_ir.specs.declared.module.Region.{Region}

abbrev pub no_marks : Marks
no_marks = record { loop_no = None; source = None; distinct = false }

unfoldable pub op_of : ℕ → OpKind → List ValueId → List ValueId → List Region → Marks → Op
op_of number kind operands results regions marks =
    roll-Op (record { number = number; kind = kind; operands = operands; results = results; regions = regions; marks = marks })
