use Rattle.std.proofs.Common.{◌++◌, sym, ap, ◌∙◌}
use Rattle.std.proofs.lemmas.List.{append-nil}
use Rattle.av_printer.proofs.OperationSteps.{text-other}
use Rattle.av_printer.proofs.functions.print_text_in.Goals as goal

pub returns-in_default : goal.returns-in_default
returns-in_default c =
    sym (ap (λ t. c.args.out.now ++ t) (text-other c.args.attr.now c.in_default.not-Quoted) ∙ append-nil c.args.out.now)
