use Rattle.std.proofs.Common.{◌++◌, List, sym, ap, ◌∙◌}
use Rattle.std.proofs.lemmas.List.{append-nil}
use Rattle.av_printer.specs.Pieces.{Piece, spelt}
use Rattle.av_printer.proofs.Steps.{spelt-none}
use Rattle.av_printer.proofs.PartSteps.{flags-other}
use Rattle.av_printer.proofs.properties.print_flags_in.Goals as goal

pub returns-in_default : goal.returns-in_default
returns-in_default c =
    sym (ap (λ (p : List Piece). c.args.out.now ++ spelt p) (flags-other c.args.attr.now c.in_default.not-Hash)
    ∙ ap (λ t. c.args.out.now ++ t) spelt-none ∙ append-nil c.args.out.now)
