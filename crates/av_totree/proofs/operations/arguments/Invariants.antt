use Rattle.av_totree.specs.Names.{naming_of}
use Rattle.av_totree.specs.Trees.{make_argument}
use Rattle.av_totree.proofs.Turns.{IsMadeTo}
use Rattle.av_totree.proofs.operations.arguments.Given as goal

abbrev pub invariant-loop-value : goal.invariant-loop-value
invariant-loop-value l = IsMadeTo (make_argument l.types) l.values (naming_of l.initial.names) l.value-index l.args (naming_of l.names)
