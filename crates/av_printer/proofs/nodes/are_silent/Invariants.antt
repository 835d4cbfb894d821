use Rattle.std.proofs.Common.{◌≡◌, map, drop}
use Rattle.av_printer.specs.Spelling.{all_silent, operation_of}
use Rattle.av_printer.proofs.nodes.are_silent.Given as goal

abbrev pub invariant-loop-node : goal.invariant-loop-node
invariant-loop-node l = all_silent (map operation_of (drop l.node-index l.nodes)) ≡ all_silent (map operation_of l.nodes)
