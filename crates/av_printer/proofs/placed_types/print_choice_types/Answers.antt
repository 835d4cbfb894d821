use Rattle.std.proofs.Common.{◌++◌, List, Option, sym, ap, ◌∙◌}
use Rattle.av_tree.specs.declared.written.TypeText.{TypeText}
use Rattle.av_printer.specs.Pieces.{Piece, spelt}
use Rattle.av_printer.specs.Parts.{condition_type, first_known}
use Rattle.av_printer.proofs.Steps.{then}
use Rattle.av_printer.proofs.PartSteps.{selected-some}
use Rattle.av_printer.proofs.placed_types.print_choice_types.Goals as goal

pub returns-in_ok-print_first_known-in-len1-up : goal.returns-in_ok-print_first_known-in-len1-up
returns-in_ok-print_first_known-in-len1-up c =
    let ts = c.args.types.now in
    let t = c.condition-item.result in
    then _ _ _ (condition_type t) (first_known c.behind.result.now) c.in_ok-print_condition_type-in-len1-up.ensures c.in_ok-print_first_known-in-len1-up.ensures
    ∙ ap (λ (p : List Piece). c.args.out.now ++ spelt p)
    (ap (λ (o : List (Option TypeText)). condition_type t ++ first_known o) c.behind.ensures ∙ sym (selected-some ts t c.in-len1-up.len_at_least c.condition-item.is))
