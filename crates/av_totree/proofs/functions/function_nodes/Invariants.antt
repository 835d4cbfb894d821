use Rattle.std.proofs.Common.{◌≡◌, map, take}
use Rattle.av_totree.specs.Trees.{function_of}
use Rattle.av_totree.proofs.functions.function_nodes.Given as goal

abbrev pub invariant-loop-function : goal.invariant-loop-function
invariant-loop-function l = l.nodes ≡ map function_of (take l.function-index l.functions)
