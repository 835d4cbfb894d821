use Rattle.std.proofs.Common.{◌++◌, map, codes}
use Rattle.av_lex.specs.declared.token.Sign.TheVariants.{OpenAngle, Colon}
use Rattle.av_printer.specs.Pieces.{sign, plain, spaced, commas, in_round}
use Rattle.av_printer.specs.Expressions.{row_pieces, parameters, map_pieces, set_pieces}
use Rattle.av_printer.proofs.Steps.{in_angles, spelt-colon, spelt-opened}
use Rattle.av_printer.proofs.expressions.print_set.Goals as goal

pub returns : goal.returns
unfolding map_pieces set_pieces
returns c =
    let e = in_angles c.args.out.now _ _ _ _ _ (plain (codes "affine_set") ++ sign OpenAngle) (parameters c.as_slice.result.now c.as_slice-2.result.now) (spaced (sign Colon))
    (in_round (commas (map row_pieces c.as_slice-3.result.now))) (codes "affine_set<") (codes " : ") (spelt-opened (codes "affine_set")) spelt-colon
    c.in_ok-push_bytes.ensures c.in_ok-print_parameters.ensures c.in_ok-push_bytes-2.ensures c.in_ok-print_rows.ensures c.in_ok-push_bytes-3.ensures in
    cc
