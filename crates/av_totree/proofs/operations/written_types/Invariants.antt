use Rattle.std.proofs.Common.{◌≡◌, map, take}
use Rattle.av_totree.specs.Names.{written_type}
use Rattle.av_totree.proofs.operations.written_types.Given as goal

abbrev pub invariant-loop-value : goal.invariant-loop-value
invariant-loop-value l = l.texts ≡ map (written_type l.types) (take l.value-index l.values)
