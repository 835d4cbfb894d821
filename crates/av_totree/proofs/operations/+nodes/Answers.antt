use Rattle.av_totree.specs.Names.{naming_of}
use Rattle.av_totree.specs.Trees.{node_of, body_of}
use Rattle.av_totree.proofs.MadeNodes.{node_made, node_named, body_made, body_named}
use Rattle.av_totree.proofs.Turns.{made_more, made_all, named_all}
use Rattle.av_totree.proofs.operations.+nodes.Goals as goal

pub operation_nodes-loop-op-preserved : goal.operation_nodes-loop-op-preserved
operation_nodes-loop-op-preserved t c =
    made_more (node_of c.args.types.now) c.args.ops.now (naming_of c.args.names.now) c.loop-op.op-index c.op-item.result c.loop-op.nodes c.push.new.self
    c.in_ok-operation_node.field-0 (naming_of c.loop-op.names) (naming_of c.operation_node.new.names)
    c.loop-op-test.true c.op-item.is c.in_ok-operation_node.ensures.made c.in_ok-operation_node.ensures.naming c.in_ok-push.ensures.ok c.loop-op.invariant

pub operation_nodes-returns-clause-made : goal.operation_nodes-returns-clause-made
operation_nodes-returns-clause-made t c = made_all _ _ _ c.loop-op.op-index _ _ c.loop-op-test.false c.loop-op.invariant

pub operation_nodes-returns-clause-naming : goal.operation_nodes-returns-clause-naming
operation_nodes-returns-clause-naming t c = named_all _ _ _ c.loop-op.op-index _ _ c.loop-op-test.false c.loop-op.invariant

pub region_bodies-loop-region-preserved : goal.region_bodies-loop-region-preserved
region_bodies-loop-region-preserved t c =
    made_more (body_of c.args.types.now) c.args.regions.now (naming_of c.args.names.now) c.loop-region.region-index c.region-item.result
    c.loop-region.bodies c.push.new.self c.in_ok-region_body.field-0 (naming_of c.loop-region.names) (naming_of c.region_body.new.names)
    c.loop-region-test.true c.region-item.is c.in_ok-region_body.ensures.made c.in_ok-region_body.ensures.naming c.in_ok-push.ensures.ok c.loop-region.invariant

pub region_bodies-returns-clause-made : goal.region_bodies-returns-clause-made
region_bodies-returns-clause-made t c = made_all _ _ _ c.loop-region.region-index _ _ c.loop-region-test.false c.loop-region.invariant

pub region_bodies-returns-clause-naming : goal.region_bodies-returns-clause-naming
region_bodies-returns-clause-naming t c = named_all _ _ _ c.loop-region.region-index _ _ c.loop-region-test.false c.loop-region.invariant

pub operation_node-returns-clause-made : goal.operation_node-returns-clause-made
operation_node-returns-clause-made t c =
    node_made c.args.types.now c.args.op.now (naming_of c.args.names.now) c.as_slice.result.now c.as_slice-2.result.now c.as_slice.ensures
    c.as_slice-2.ensures (naming_of c.name_results.new.self) c.in_ok-results.ensures.named c.in_ok-node.node c.whole_node.result
    c.in_ok-results.results c.in_ok-regions.regions c.in_ok-node.ensures c.whole_node.ensures c.in_ok-results.ensures.texts
    c.in_ok-regions.ensures.made

pub operation_node-returns-clause-naming : goal.operation_node-returns-clause-naming
operation_node-returns-clause-naming t c =
    node_named c.args.types.now c.args.op.now (naming_of c.args.names.now) c.as_slice.result.now c.as_slice-2.result.now c.as_slice.ensures
    c.as_slice-2.ensures (naming_of c.name_results.new.self) c.in_ok-results.ensures.named (naming_of c.region_bodies.new.names)
    c.in_ok-regions.ensures.naming

pub region_body-returns-clause-made : goal.region_body-returns-clause-made
region_body-returns-clause-made t c =
    body_made c.args.types.now c.args.region.now (naming_of c.args.names.now) c.as_slice.result.now c.as_slice-2.result.now c.as_slice.ensures
    c.as_slice-2.ensures (naming_of c.arguments.new.names) c.in_ok-args.ensures.naming c.in_ok-args.args c.in_ok-nodes.nodes
    c.in_ok-args.ensures.made c.in_ok-nodes.ensures.made

pub region_body-returns-clause-naming : goal.region_body-returns-clause-naming
region_body-returns-clause-naming t c =
    body_named c.args.types.now c.args.region.now (naming_of c.args.names.now) c.as_slice.result.now c.as_slice-2.result.now c.as_slice.ensures
    c.as_slice-2.ensures (naming_of c.arguments.new.names) c.in_ok-args.ensures.naming (naming_of c.operation_nodes.new.names)
    c.in_ok-nodes.ensures.naming
