use Rattle.av_values.proofs.Replacing.{at_fault}
use Rattle.av_operations.proofs.Items.{type-missing, type-taken}
use Rattle.av_operations.proofs.gifts.a_type.Goals as goal

pub returns-clause-ok : goal.returns-clause-ok
returns-clause-ok c = type-taken _ _ _ _ _ _ c.in_ok-ty.ensures.ok (rw c.change_alone.ensures)

pub returns-in_err-ty-clause-misshapen : goal.returns-in_err-ty-clause-misshapen
returns-in_err-ty-clause-misshapen c = at_fault _ c.from_residual.result _ (type-missing _ _ _ c.in_err-ty.ensures.err)
