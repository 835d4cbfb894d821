use Rattle.av_blocks.proofs.regions.terminator_node.Goals as goal

pub returns-clause-ok : goal.returns-clause-ok
returns-clause-ok c =
    rw (c.with_operands_of.ensures, c.plain_node.ensures, c.in_ok-name.ensures.ok, c.in_ok-types.ensures.ok, c.as_slice.ensures, c.in_order-written.ensures, c.in_order-operands.ensures)
