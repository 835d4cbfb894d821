use Rattle.std.proofs.Common.{refl}
use Rattle.av_values.proofs.Replacing.{replaced-end, replaced-top, replaced-none, at_fault}
use Rattle.av_blocks.proofs.files.func_func.Goals as goal

pub returns-clause-ok : goal.returns-clause-ok
returns-clause-ok c = replaced-top _ _ _ _ _ _ _ _ c.in_ok-properties.ensures.ok (replaced-top _ _ _ _ _ _ _ _ c.in_ok-symbol.ensures.ok (replaced-top _ _ _ _ _ _ _ _ c.in_ok-args.ensures.ok (replaced-top _ _ _ _ _ _ _ _ c.in_ok-results.ensures.ok (replaced-top _ _ _ _ _ _ _ _ c.in_ok-attrs.ensures.ok (replaced-top _ _ _ _ _ _ _ _ c.in_ok-nodes.ensures.ok (replaced-end _ _ _ _ _ refl (rw (c.in_ok-push_node.ensures.ok, c.in_ok-node.ensures.ok))))))))

pub returns-in_err-symbol-clause-misshapen : goal.returns-in_err-symbol-clause-misshapen
returns-in_err-symbol-clause-misshapen c = at_fault _ c.from_residual-in_err-symbol.result _ (replaced-top _ _ _ _ _ _ _ _ c.in_ok-properties.ensures.ok (replaced-none _ _ _ _ _ c.in_err-symbol.ensures.err))

pub returns-in_err-args-clause-misshapen : goal.returns-in_err-args-clause-misshapen
returns-in_err-args-clause-misshapen c = at_fault _ c.from_residual-in_err-args.result _ (replaced-top _ _ _ _ _ _ _ _ c.in_ok-properties.ensures.ok (replaced-top _ _ _ _ _ _ _ _ c.in_ok-symbol.ensures.ok (replaced-none _ _ _ _ _ c.in_err-args.ensures.err)))

pub returns-in_err-results-clause-misshapen : goal.returns-in_err-results-clause-misshapen
returns-in_err-results-clause-misshapen c = at_fault _ c.from_residual-in_err-results.result _ (replaced-top _ _ _ _ _ _ _ _ c.in_ok-properties.ensures.ok (replaced-top _ _ _ _ _ _ _ _ c.in_ok-symbol.ensures.ok (replaced-top _ _ _ _ _ _ _ _ c.in_ok-args.ensures.ok (replaced-none _ _ _ _ _ c.in_err-results.ensures.err))))

pub returns-in_err-attrs-clause-misshapen : goal.returns-in_err-attrs-clause-misshapen
returns-in_err-attrs-clause-misshapen c = at_fault _ c.from_residual-in_err-attrs.result _ (replaced-top _ _ _ _ _ _ _ _ c.in_ok-properties.ensures.ok (replaced-top _ _ _ _ _ _ _ _ c.in_ok-symbol.ensures.ok (replaced-top _ _ _ _ _ _ _ _ c.in_ok-args.ensures.ok (replaced-top _ _ _ _ _ _ _ _ c.in_ok-results.ensures.ok (replaced-none _ _ _ _ _ c.in_err-attrs.ensures.err)))))

pub returns-in_err-nodes-clause-misshapen : goal.returns-in_err-nodes-clause-misshapen
returns-in_err-nodes-clause-misshapen c = at_fault _ c.from_residual-in_err-nodes.result _ (replaced-top _ _ _ _ _ _ _ _ c.in_ok-properties.ensures.ok (replaced-top _ _ _ _ _ _ _ _ c.in_ok-symbol.ensures.ok (replaced-top _ _ _ _ _ _ _ _ c.in_ok-args.ensures.ok (replaced-top _ _ _ _ _ _ _ _ c.in_ok-results.ensures.ok (replaced-top _ _ _ _ _ _ _ _ c.in_ok-attrs.ensures.ok (replaced-none _ _ _ _ _ c.in_err-nodes.ensures.err))))))
