use Rattle.std.proofs.Common.{ap, sym, ◌∙◌, ◌++◌, ◌∷◌, []}
use Rattle.av_tree.specs.declared.node.Node.{Node}
use Rattle.av_values.specs.Nodes.{plain}
use Rattle.av_values.proofs.NodeParts.{end_written, end_put}
use Rattle.av_values.proofs.loops.with_terminator.Goals as goal

pub returns-then-is_ended-clause-ok : goal.returns-then-is_ended-clause-ok
returns-then-is_ended-clause-ok c = end_written c.args.name.now c.args.nodes c.as_slice.result.now c.as_slice.ensures (sym c.is_ended.ensures ∙ c.if-is_ended.true)

pub returns-clause-ok : goal.returns-clause-ok
returns-clause-ok c =
    c.in_ok-push.ensures.ok
    ∙ ap (λ (node : Node). c.args.nodes ++ node ∷ []) (c.plain_node.ensures ∙ ap (λ name. plain name 0) c.in_ok-name.ensures.ok)
    ∙ end_put c.args.name.now c.args.nodes c.as_slice.result.now c.as_slice.ensures (sym c.is_ended.ensures ∙ c.if-is_ended.false)
