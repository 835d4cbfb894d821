use Rattle.std.proofs.Common.{ap, ◌∙◌}
use Rattle.std.proofs.lemmas.Result.{err_from_is_err_and}
use Rattle.av_bits.specs.Pattern.{pattern_of}
use Rattle.av_ir.specs.ScalarRun.{evaluated}
use Rattle.av_scalar.specs.Maps.{choice_of}
use Rattle.av_scalar.specs.Names.{values}
use Rattle.av_scalar.proofs.Parts.{mapped_gives, mapped_stops}
use Rattle.av_scalar.proofs.operations.give_mapped.Goals as goal

pub returns-in_err-results : goal.returns-in_err-results
returns-in_err-results c = λ memory budget.
    let p = err_from_is_err_and c.from_residual.result c.from_residual.ensures.1 in
    rw (p.1, p.2)
    (mapped_stops (choice_of c.args.choice) c.args.number (evaluated c.args.map.now (values c.args.operands.now)) memory c.in_err-results.field-0.0 c.in_err-results.ensures.stop budget)

pub returns : goal.returns
returns c = λ memory budget.
    rw c.in_ok-one.ensures
    (mapped_gives (choice_of c.args.choice) c.args.number (evaluated c.args.map.now (values c.args.operands.now)) memory c.in_ok-results.results.items c.in_ok-results.ensures.value
    c.chosen_word.result (c.chosen_word.ensures ∙ ap (λ zs. pattern_of 64 (choice_of c.args.choice zs)) c.as_slice.ensures) budget)
