use Rattle.std.proofs.Common.{◌≡◌, subst}
use Rattle.std.specs.Prelude.{IfOk, List}
use Rattle.av_ir.specs.declared.module.ValueId.{ValueId}
use Rattle.av_verify.specs.Maps.{occur, parameter_value, with_value}
use Rattle.av_verify.proofs.TextVariants.{occur-Name}
use Rattle.av_verify.proofs.maps.+occur.Goals as goal

pub returns-in-Name : goal.returns-in-Name
returns-in-Name t c =
    let m = c.args.map.now in
    let e : with_value c.args.used (parameter_value m c.args.operands.now c.as_slice.result.now) ≡ occur m c.args.operands.now c.args.used c.args.expr.now =
    cc (occur-Name m c.args.operands.now c.args.used c.in-Name.name) in
    subst (λ (z : List ValueId). IfOk c.with_parameter.result (λ values. values ≡ z)) e c.with_parameter.ensures
