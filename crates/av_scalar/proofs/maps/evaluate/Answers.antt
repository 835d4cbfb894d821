use Rattle.std.proofs.Common.{◌∙◌, ap, refl, arith, drop, take}
use Rattle.av_scalar.proofs.Evaluations.{has_results, has_none}
use Rattle.av_scalar.proofs.maps.evaluate.Goals as goal

pub returns-in-Ok-clause-value : goal.returns-in-Ok-clause-value
returns-in-Ok-clause-value c =
    has_results c.args.map.now c.args.operands.now c.in_ok-indices.indices.items c.ahead-dims.result.now c.ahead-syms.result.now c.in_ok-indices.ensures
    (c.ahead-dims.ensures ∙ ap (take c.args.map.now.dims) c.deref.ensures.value)
    (c.ahead-syms.ensures ∙ ap (take c.args.map.now.syms) (c.behind.ensures ∙ ap (drop c.args.map.now.dims) c.deref-2.ensures.value))
    c.in-Ok.results.items c.in-Ok.ensures.values (c.in-Ok.ensures.range.0 refl)

pub returns-clause-stop : goal.returns-clause-stop
returns-clause-stop c = (
  refl,
  refl,
  has_none c.args.map.now c.args.operands.now c.in_ok-indices.indices.items c.ahead-dims.result.now c.ahead-syms.result.now c.in_ok-indices.ensures
      (c.ahead-dims.ensures ∙ ap (take c.args.map.now.dims) c.deref.ensures.value)
      (c.ahead-syms.ensures ∙ ap (take c.args.map.now.syms) (c.behind.ensures ∙ ap (drop c.args.map.now.dims) c.deref-2.ensures.value))
      (λ h. let t = c.in-Err.ensures.range.1 h in grind arith),
)
