use Rattle.av_operations.specs.Taking.{item_taken}
use Rattle.av_operations.proofs.Items.{one-taken}
use Rattle.av_operations.proofs.gifts.typed.Goals as goal

pub returns-clause-ok : goal.returns-clause-ok
unfolding item_taken
returns-clause-ok c = one-taken _ _ _ _ _ _ c.in_ok-both.ensures.ok (rw (c.in_order-operands.ensures, c.in_order-types.ensures))
