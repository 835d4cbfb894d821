use Rattle.av_values.proofs.Replacing.{at_fault}
use Rattle.av_operations.specs.Taking.{item_taken}
use Rattle.av_operations.proofs.Items.{next-missing, two-taken}
use Rattle.av_operations.proofs.gifts.operands.Goals as goal

pub returns-clause-ok : goal.returns-clause-ok
unfolding item_taken
returns-clause-ok c =
    two-taken _ _ _ _ _ _ _ _ _ c.in_ok-first.ensures.ok c.in_ok-others.ensures.ok
    (rw (c.operands_alone.ensures, c.in_ok-operands.ensures.ok, c.in_order.ensures))

pub returns-in_err-others-clause-misshapen : goal.returns-in_err-others-clause-misshapen
unfolding item_taken
returns-in_err-others-clause-misshapen c =
    at_fault _ c.from_residual-in_err-others.result _ (next-missing _ _ _ _ _ _ _ c.in_ok-first.ensures.ok c.in_err-others.ensures.err)
