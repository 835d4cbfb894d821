use Rattle.std.proofs.Common.{◌≡◌, ◌++◌, map, take}
use Rattle.av_printer.specs.Pieces.{spelt, commas, joined}
use Rattle.av_printer.specs.Spelling.{node_line, else_body, common_body}
use Rattle.av_printer.proofs.nodes.+nodes.Given as goal

abbrev pub invariant-print_else_regions-loop-region : goal.invariant-print_else_regions-loop-region
invariant-print_else_regions-loop-region l = l.out ≡ l.fn.out ++ spelt (joined (map (else_body l.depth) (take l.region-index l.regions)))

abbrev pub invariant-print_common_regions-loop-i : goal.invariant-print_common_regions-loop-i
invariant-print_common_regions-loop-i l = l.out ≡ l.initial.out ++ spelt (commas (map (common_body l.depth) (take l.i l.regions)))

abbrev pub invariant-print_operations-loop-node : goal.invariant-print_operations-loop-node
invariant-print_operations-loop-node l = l.out ≡ l.fn.out ++ spelt (joined (map (node_line l.form l.depth) (take l.node-index l.nodes)))
