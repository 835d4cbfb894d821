use Rattle.std.proofs.Common.{arith}
use Rattle.std.specs.Prelude.{FitsSigned}
use Rattle.std.specs.Int.{w64}
use Rattle.std.proofs.lemmas.Int.{ints, to_z-of_z}
use Rattle.av_bits.proofs.Rounding.{floor_div-above_inexact, floor_div-above_exact, floor_div-below_inexact, floor_div-below_exact}
use Rattle.av_bits.proofs.divisions.floor_quotient.Goals as goal

pub returns-then-rest-lt0 : goal.returns-then-rest-lt0
returns-then-rest-lt0 c =
    let x_fits : FitsSigned w64 c.args.x = c.ranges.x in
    let y_fits : FitsSigned w64 c.args.y = c.ranges.y in
    let quotient_is = simp to_z-of_z at c.quotient.ensures in
    let rest_is = simp to_z-of_z at c.rest-rest.ensures in
    omega (arith, ints, floor_div-above_inexact c.args.x c.args.y (omega (arith, ints)) (omega (arith, ints)))

pub returns-else-rest-lt0 : goal.returns-else-rest-lt0
returns-else-rest-lt0 c =
    let x_fits : FitsSigned w64 c.args.x = c.ranges.x in
    let y_fits : FitsSigned w64 c.args.y = c.ranges.y in
    let quotient_is = simp to_z-of_z at c.quotient.ensures in
    let rest_is = simp to_z-of_z at c.rest-rest.ensures in
    omega (arith, ints, floor_div-above_exact c.args.x c.args.y (omega (arith, ints)) (omega (arith, ints)))

pub returns-then-rest-gt0 : goal.returns-then-rest-gt0
returns-then-rest-gt0 c =
    let x_fits : FitsSigned w64 c.args.x = c.ranges.x in
    let y_fits : FitsSigned w64 c.args.y = c.ranges.y in
    let quotient_is = simp to_z-of_z at c.quotient.ensures in
    let rest_is = simp to_z-of_z at c.rest-rest.ensures in
    omega (arith, ints, floor_div-below_inexact c.args.x c.args.y (omega (arith, ints)) (omega (arith, ints)))

pub returns-else-rest-gt0 : goal.returns-else-rest-gt0
returns-else-rest-gt0 c =
    let x_fits : FitsSigned w64 c.args.x = c.ranges.x in
    let y_fits : FitsSigned w64 c.args.y = c.ranges.y in
    let quotient_is = simp to_z-of_z at c.quotient.ensures in
    let rest_is = simp to_z-of_z at c.rest-rest.ensures in
    omega (arith, ints, floor_div-below_exact c.args.x c.args.y (omega (arith, ints)) (omega (arith, ints)))
