use Rattle.av_operations.specs.Taking.{item_taken}
use Rattle.av_operations.proofs.Items.{none-taken}
use Rattle.av_operations.proofs.gifts.by_hand.Goals as goal

pub returns-clause-ok : goal.returns-clause-ok
unfolding item_taken
returns-clause-ok c = none-taken _ _ _ (rw (c.operands_alone.ensures, c.new.ensures))
