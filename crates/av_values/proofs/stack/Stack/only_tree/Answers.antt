use Rattle.av_values.proofs.OneTree.{no-top-tree, on_fault, one-tree, tree-and-more}
use Rattle.av_values.proofs.stack.Stack.only_tree.Goals as goal

pub returns-in_err-tree-clause-misshapen : goal.returns-in_err-tree-clause-misshapen
returns-in_err-tree-clause-misshapen c = on_fault _ c.from_residual.result _ (no-top-tree _ c.in_err-tree.ensures.err)

pub returns-in-Ok-clause-misshapen : goal.returns-in-Ok-clause-misshapen
returns-in-Ok-clause-misshapen c = tree-and-more _ _ _ _ _ c.in_ok-tree.ensures.ok c.in-Ok.ensures.ok

pub returns-clause-ok : goal.returns-clause-ok
returns-clause-ok c = one-tree _ _ _ c.in_ok-tree.ensures.ok c.in-Err.ensures.err
