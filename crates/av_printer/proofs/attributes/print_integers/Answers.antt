use Rattle.std.proofs.Common.{◌++◌, refl, sym, ap, ◌∙◌, get_or, rules, ℤ}
use Rattle.std.specs.Prelude.{pos, FitsSigned}
use Rattle.std.specs.Fmt.{signed_decimal}
use Rattle.std.proofs.lemmas.Int.{to_z-of_z}
use mir.Syntax.{w128}
use Rattle.av_printer.specs.Expressions.{number}
use Rattle.av_printer.proofs.Steps.{commas-turn}
use Rattle.av_printer.proofs.ExpressionSteps.{spelt-number}
use Rattle.av_printer.proofs.attributes.print_integers.Goals as goal

pub loop-i-preserved : goal.loop-i-preserved
loop-i-preserved c =
    let z : ℤ = get_or c.args.numbers.now c.loop-i.i (pos 0) in
    let f : FitsSigned w128 z = search rules in
    commas-turn number c.args.numbers.now c.loop-i.i (pos 0) z c.args.out.now c.loop-i.out c.push_comma_after.new.self c.push_number.new.self c.loop-i-test.true refl c.loop-i.invariant c.in_ok-push_comma_after.ensures
    (c.in_ok-push_number.ensures ∙ ap (λ n. c.push_comma_after.new.self ++ signed_decimal n) (to_z-of_z w128 z f) ∙ ap (λ t. c.push_comma_after.new.self ++ t) (sym (spelt-number z)))
