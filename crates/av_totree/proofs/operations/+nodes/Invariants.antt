-- each list is made up to the place of the loop
use Rattle.av_totree.specs.Names.{naming_of}
use Rattle.av_totree.specs.Trees.{node_of, body_of}
use Rattle.av_totree.proofs.Turns.{IsMadeTo}
use Rattle.av_totree.proofs.operations.+nodes.Given as goal

abbrev pub invariant-operation_nodes-loop-op : goal.invariant-operation_nodes-loop-op
invariant-operation_nodes-loop-op l = IsMadeTo (node_of l.types) l.ops (naming_of l.initial.names) l.op-index l.nodes (naming_of l.names)

abbrev pub invariant-region_bodies-loop-region : goal.invariant-region_bodies-loop-region
invariant-region_bodies-loop-region l =
    IsMadeTo (body_of l.types) l.regions (naming_of l.initial.names) l.region-index l.bodies (naming_of l.names)
