use Rattle.std.proofs.Common.{Some, ap, rules, sym, ◌∙◌}
use Rattle.av_operations.proofs.Making.{operation-made, operation-missing, same-parts, through_fault}
use Rattle.av_operations.proofs.operation.reduce_operation.Goals as goal

pub returns-clause-ok : goal.returns-clause-ok
returns-clause-ok c =
    operation-made _ _ _ _ _ (same-parts _ _ _ _ _ _ _ c.form_of.ensures c.new-types.ensures c.in_ok-node.ensures.ok) ∙ ap Some (sym c.in_ok-push_node.ensures.ok)

pub returns-in_err-node-clause-misshapen : goal.returns-in_err-node-clause-misshapen
returns-in_err-node-clause-misshapen c =
    through_fault _ c.from_residual.result c.in_err-node.field-0.0 _ _ (search rules) c.in_err-node.ensures.misshapen
    (λ missing. operation-missing _ _ _ (same-parts _ _ _ _ _ _ _ c.form_of.ensures c.new-types.ensures missing))
