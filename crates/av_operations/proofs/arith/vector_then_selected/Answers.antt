use Rattle.std.proofs.Common.{refl}
use Rattle.av_values.proofs.Replacing.{replaced-end, replaced-top, replaced-none, at_fault}
use Rattle.av_operations.proofs.arith.vector_then_selected.Goals as goal

pub returns-clause-ok : goal.returns-clause-ok
returns-clause-ok c = replaced-top _ _ _ _ _ _ _ _ c.in_ok-first.ensures.ok (replaced-top _ _ _ _ _ _ _ _ c.in_ok-next.ensures.ok (replaced-end _ _ _ _ _ refl (rw (c.in_ok-push_selected.ensures.ok, c.selected_of-selected.ensures))))

pub returns-in_err-next-clause-misshapen : goal.returns-in_err-next-clause-misshapen
returns-in_err-next-clause-misshapen c = at_fault _ c.from_residual-in_err-next.result _ (replaced-top _ _ _ _ _ _ _ _ c.in_ok-first.ensures.ok (replaced-none _ _ _ _ _ c.in_err-next.ensures.err))
