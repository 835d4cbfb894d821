use Rattle.av_operations.specs.Taking.{item_taken}
use Rattle.av_operations.proofs.Items.{one-taken}
use Rattle.av_operations.proofs.gifts.a_set.Goals as goal

pub returns-clause-ok : goal.returns-clause-ok
unfolding item_taken
returns-clause-ok c = one-taken _ _ _ _ _ _ c.in_ok-map_use.ensures.ok (rw c.in_ok-gift.ensures.ok)
