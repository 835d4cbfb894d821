use Rattle.std.proofs.Common.{◌≡◌, map, take}
use Rattle.av_totree.specs.Trees.{argument_type}
use Rattle.av_totree.proofs.functions.argument_types.Given as goal

abbrev pub invariant-loop-arg : goal.invariant-loop-arg
invariant-loop-arg l = l.texts ≡ map (argument_type l.types) (take l.arg-index l.args)
