use Rattle.av_blocks.proofs.regions.with_end.Goals as goal

pub returns-clause-ok : goal.returns-clause-ok
returns-clause-ok c = rw (c.in_ok-push.ensures.ok, c.plain_node.ensures, c.in_ok-name.ensures.ok)
