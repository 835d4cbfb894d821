use Rattle.std.proofs.Common.{◌++◌, map, codes}
use Rattle.av_lex.specs.declared.token.Sign.TheVariants.{OpenAngle, Arrow}
use Rattle.av_printer.specs.Pieces.{sign, plain, spaced, commas, in_round}
use Rattle.av_printer.specs.Expressions.{expression, parameters, map_pieces, set_pieces}
use Rattle.av_printer.proofs.Steps.{in_angles, spelt-arrow, spelt-opened}
use Rattle.av_printer.proofs.expressions.print_map.Goals as goal

pub returns : goal.returns
unfolding map_pieces set_pieces
returns c =
    let e = in_angles c.args.out.now _ _ _ _ _ (plain (codes "affine_map") ++ sign OpenAngle) (parameters c.as_slice.result.now c.as_slice-2.result.now) (spaced (sign Arrow))
    (in_round (commas (map (expression plain) c.as_slice-3.result.now))) (codes "affine_map<") (codes " -> ") (spelt-opened (codes "affine_map")) spelt-arrow
    c.in_ok-push_bytes.ensures c.in_ok-print_parameters.ensures c.in_ok-push_bytes-2.ensures c.in_ok-print_results.ensures c.in_ok-push_bytes-3.ensures in
    cc
