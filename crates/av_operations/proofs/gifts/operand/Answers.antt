use Rattle.av_operations.specs.Taking.{item_taken}
use Rattle.av_operations.proofs.Items.{one-taken}
use Rattle.av_operations.proofs.gifts.operand.Goals as goal

pub returns-clause-ok : goal.returns-clause-ok
unfolding item_taken
returns-clause-ok c = one-taken _ _ _ _ _ _ c.in_ok-value.ensures.ok (rw (c.operands_alone.ensures, c.in_ok-operands.ensures.ok, c.new.ensures))
