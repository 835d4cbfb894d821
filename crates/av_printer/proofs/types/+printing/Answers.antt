use Rattle.std.proofs.Common.{◌++◌, map, codes, ap, ◌∙◌}
use Rattle.av_lex.specs.declared.token.Sign.TheVariants.{Arrow}
use Rattle.av_printer.specs.Pieces.{sign, spaced, commas, in_round}
use Rattle.av_printer.specs.Types.{type_pieces, one_or_several}
use Rattle.av_printer.proofs.Steps.{commas-turn, then, then_text, spelt-arrow}
use Rattle.av_printer.proofs.TypeSteps.{type-func}
use Rattle.av_printer.proofs.types.+printing.Goals as goal

pub print_types_in_brackets-loop-i-preserved : goal.print_types_in_brackets-loop-i-preserved
print_types_in_brackets-loop-i-preserved t c =
    commas-turn type_pieces c.args.types.now c.loop-i.i _ _ c.push_bytes.new.self c.loop-i.out c.push_comma_after.new.self c.print_type.new.out c.loop-i-test.true c.index-types-i.is c.loop-i.invariant c.in_ok-push_comma_after.ensures c.in_ok-print_type.ensures

pub print_type-returns-in_ok-print_result_types-in-Func : goal.print_type-returns-in_ok-print_result_types-in-Func
print_type-returns-in_ok-print_result_types-in-Func t c =
    let inputs = in_round (commas (map type_pieces c.as_slice-in-Func.result.now)) in
    let results = one_or_several (map type_pieces c.as_slice-in-Func-2.result.now) in
    let e = then _ _ _ (inputs ++ spaced (sign Arrow)) results
    (then_text _ _ _ inputs (spaced (sign Arrow)) (codes " -> ") spelt-arrow c.in_ok-print_types_in_brackets-in-Func.ensures c.in_ok-push_bytes-in-Func.ensures)
    c.in_ok-print_result_types-in-Func.ensures in
    let o = ap type_pieces c.in-Func.is ∙ type-func c.in-Func.inputs c.in-Func.results in
    cc
