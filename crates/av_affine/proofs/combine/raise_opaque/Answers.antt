use Rattle.std.proofs.Common.{rules, ap}
use Rattle.std.specs.Prelude.{FitsSigned}
use Rattle.std.proofs.lemmas.Int.{to_z-of_z}
use mir.Syntax.{w128}
use mir.Val.{of_z}
use Rattle.av_affine.specs.declared.linear.Opaque.{out-Opaque}
use Rattle.av_affine.proofs.Placed.{raised_back, on_ok}
use Rattle.av_affine.proofs.combine.raise_opaque.Goals as goal

pub returns : goal.returns
returns c =
    let by_fits : FitsSigned w128 (out-Opaque c.remove-kind.result).by = search rules in
    let factor_fits : FitsSigned w128 (out-Opaque c.remove-kind.result).factor = search rules in
    let sum_fits : FitsSigned w128 c.sum-factor.result = search rules in
    let more_fits : FitsSigned w128 c.args.more = search rules in
    let sums = simp to_z-of_z at c.sum-factor.ensures in
    on_ok c.insert.result
    (λ h. raised_back c.args.opaques.now c.args.at c.remove-kind.result c.requires.place c.remove-kind.ensures.value c.args.more c.sum-factor.result sums
    _ _ c.remove-kind.new.self c.insert.new.self c.remove-kind.ensures.rest (to_z-of_z w128 (out-Opaque c.remove-kind.result).by by_fits)
    (to_z-of_z w128 c.sum-factor.result sum_fits) (λ e. c.if-factor-eq0.false (ap (of_z w128) e)) h)
    c.insert.ensures.ok
