use Rattle.av_operations.specs.Taking.{item_taken}
use Rattle.av_operations.proofs.Items.{one-taken}
use Rattle.av_operations.proofs.gifts.region.Goals as goal

pub returns-clause-ok : goal.returns-clause-ok
unfolding item_taken
returns-clause-ok c = one-taken _ _ _ _ _ _ c.in_ok-nodes.ensures.ok (rw (c.change_alone.ensures, c.in_order.ensures))
