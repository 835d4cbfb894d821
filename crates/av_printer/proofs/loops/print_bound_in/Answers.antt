use Rattle.std.proofs.Common.{◌++◌, List, sym, ap, ◌∙◌}
use Rattle.std.proofs.lemmas.List.{append-nil}
use Rattle.av_printer.specs.Pieces.{Piece, spelt}
use Rattle.av_printer.proofs.Steps.{spelt-none}
use Rattle.av_printer.proofs.PartSteps.{bound-other}
use Rattle.av_printer.proofs.loops.print_bound_in.Goals as goal

pub returns-in_default : goal.returns-in_default
returns-in_default c =
    sym (ap (λ (p : List Piece). c.args.out.now ++ spelt p) (bound-other c.args.lower c.args.attr.now c.args.operands.now c.in_default.not-Map c.in_default.not-AliasUse)
    ∙ ap (λ t. c.args.out.now ++ t) spelt-none ∙ append-nil c.args.out.now)
