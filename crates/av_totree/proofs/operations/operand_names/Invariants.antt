use Rattle.std.proofs.Common.{◌≡◌, map, take}
use Rattle.av_totree.specs.Names.{name_of, naming_of}
use Rattle.av_totree.proofs.operations.operand_names.Given as goal

abbrev pub invariant-loop-operand : goal.invariant-loop-operand
invariant-loop-operand l = l.texts ≡ map (name_of (naming_of l.names)) (take l.operand-index l.operands)
