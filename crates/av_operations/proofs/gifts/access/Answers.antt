use Rattle.av_values.proofs.Replacing.{at_fault}
use Rattle.av_operations.specs.Taking.{item_taken}
use Rattle.av_operations.proofs.Items.{next-missing, two-taken}
use Rattle.av_operations.proofs.gifts.access.Goals as goal

pub returns-clause-ok : goal.returns-clause-ok
unfolding item_taken
returns-clause-ok c = two-taken _ _ _ _ _ _ _ _ _ c.in_ok-buffer.ensures.ok c.in_ok-subscripts.ensures.ok (rw c.in_ok-gift.ensures.ok)

pub returns-in_err-subscripts-clause-misshapen : goal.returns-in_err-subscripts-clause-misshapen
unfolding item_taken
returns-in_err-subscripts-clause-misshapen c =
    at_fault _ c.from_residual-in_err-subscripts.result _ (next-missing _ _ _ _ _ _ _ c.in_ok-buffer.ensures.ok c.in_err-subscripts.ensures.err)
