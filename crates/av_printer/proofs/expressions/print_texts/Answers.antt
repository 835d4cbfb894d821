use Rattle.std.proofs.Common.{◌++◌, sym, ap, ◌∙◌}
use Rattle.av_lex.specs.declared.token.Kind.TheVariants.{Word}
use Rattle.av_printer.specs.Pieces.{plain}
use Rattle.av_printer.proofs.Steps.{commas-turn, spelt-token}
use Rattle.av_printer.proofs.expressions.print_texts.Goals as goal

pub loop-i-preserved : goal.loop-i-preserved
loop-i-preserved c =
    commas-turn plain c.args.texts.now c.loop-i.i _ _ c.args.out.now c.loop-i.out c.push_comma_after.new.self c.push_text.new.self c.loop-i-test.true c.index-texts-i.is c.loop-i.invariant c.in_ok-push_comma_after.ensures
    (c.in_ok-push_text.ensures ∙ ap (λ t. c.push_comma_after.new.self ++ t) (sym (spelt-token Word c.index-texts-i.result)))
