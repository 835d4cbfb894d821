use Rattle.std.proofs.Common.{◌∙◌, ap, drop, take}
use Rattle.av_scalar.proofs.Evaluations.{set_tested}
use Rattle.av_scalar.proofs.maps.test.Goals as goal

pub returns : goal.returns
returns c =
    set_tested c.args.set.now c.args.operands.now c.in_ok-indices.indices.items c.ahead-dims.result.now c.ahead-syms.result.now c.in_ok-indices.ensures
    (c.ahead-dims.ensures ∙ ap (take c.args.set.now.dims) c.deref.ensures.value)
    (c.ahead-syms.ensures ∙ ap (take c.args.set.now.syms) (c.behind.ensures ∙ ap (drop c.args.set.now.dims) c.deref-2.ensures.value))
    c.holds.result c.holds.ensures
