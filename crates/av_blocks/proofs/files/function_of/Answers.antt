use Rattle.av_blocks.proofs.files.function_of.Goals as goal

pub returns-clause-ok : goal.returns-clause-ok
returns-clause-ok c =
    rw (c.plain_node.ensures, c.in_ok-name.ensures.ok, c.in_ok-signed.ensures.ok, c.in_order-args.ensures, c.in_order-results.ensures, c.in_order-attrs.ensures, c.in_order-nodes.ensures)
    at c.with_body.ensures.ok
