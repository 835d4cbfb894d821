use Rattle.av_blocks.proofs.files.module_of.Goals as goal

pub returns-clause-ok : goal.returns-clause-ok
returns-clause-ok c = rw (c.plain_node.ensures, c.in_ok-name.ensures.ok, c.new.ensures, c.in_order.ensures) at c.with_body.ensures.ok
