use Rattle.std.proofs.Common.{◌≤◌, ◌^◌, ◌<◌, length, arith, ap, subst}
use Rattle.std.specs.Prelude.{unsigned_abs}
use Rattle.av_affine.specs.declared.linear.Opaque.{out-Opaque}
use Rattle.av_affine.proofs.Bounded.{kept}
use Rattle.av_affine.proofs.Placed.{factor_out}
use Rattle.av_affine.proofs.TermPlaces.{opaque_within}
use Rattle.av_affine.proofs.combine.add_opaque.Goals as goal

pub raise_opaque-requires-clause-bound : goal.raise_opaque-requires-clause-bound
raise_opaque-requires-clause-bound c d =
    let same = ap unsigned_abs (factor_out c.args.opaque) in
    let small : unsigned_abs (out-Opaque c.args.opaque).factor ≤ 2 ^ 110 = omega arith in
    let within = opaque_within c.args.opaques.now c.in-Some.at d (subst (λ us. c.in-Some.at < length us) c.as_slice.ensures c.in-Some.ensures.0) in
    rw (kept (out-Opaque c.args.opaque).factor small) (omega arith)
