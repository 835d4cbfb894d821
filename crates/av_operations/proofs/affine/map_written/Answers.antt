use Rattle.std.proofs.Common.{refl}
use Rattle.av_values.proofs.Replacing.{replaced-end, replaced-top, replaced-none, at_fault}
use Rattle.av_operations.proofs.affine.map_written.Goals as goal

pub returns-clause-ok : goal.returns-clause-ok
returns-clause-ok c = replaced-top _ _ _ _ _ _ _ _ c.in_ok-map.ensures.ok (replaced-top _ _ _ _ _ _ _ _ c.in_ok-operands.ensures.ok (replaced-end _ _ _ _ _ refl (rw (c.in_ok-push_map_use.ensures.ok, c.in_order-operands.ensures))))

pub returns-in_err-operands-clause-misshapen : goal.returns-in_err-operands-clause-misshapen
returns-in_err-operands-clause-misshapen c = at_fault _ c.from_residual-in_err-operands.result _ (replaced-top _ _ _ _ _ _ _ _ c.in_ok-map.ensures.ok (replaced-none _ _ _ _ _ c.in_err-operands.ensures.err))
