use Rattle.std.proofs.Common.{sym, ◌∙◌, ap}
use Rattle.std.proofs.lemmas.Result.{err_from_is_err_and}
use Rattle.av_bits.specs.Pattern.{pattern_of}
use Rattle.av_ir.specs.ScalarRun.{evaluated, greatest, least, turns}
use Rattle.av_scalar.specs.Names.{values}
use Rattle.av_scalar.proofs.Parts.{behind_map, upper_stops}
use Rattle.av_scalar.proofs.bounds.turns_of.Goals as goal

pub returns-in_err-high-clause-stop : goal.returns-in_err-high-clause-stop
returns-in_err-high-clause-stop c = λ body carried memory budget.
    let p = err_from_is_err_and c.from_residual-in_err-high.result c.from_residual-in_err-high.ensures.1 in
    let rest = behind_map c.args.lower.now c.args.operands.now c.behind.result.now c.behind-rest.result.now c.behind.ensures c.behind-rest.ensures in
    rw (p.1, p.2, ← rest)
    (upper_stops c.args.step body c.args.number (evaluated c.args.lower.now (values c.args.operands.now)) (evaluated c.args.upper.now (values c.behind-rest.result.now)) carried memory
    c.in_ok-low.low.items c.in_ok-low.ensures.value c.in_err-high.field-0.0 c.in_err-high.ensures.stop budget)

pub returns-clause-turns : goal.returns-clause-turns
returns-clause-turns c = record {
  low = c.in_ok-low.low.items;
  high = c.in_ok-high.high.items;
  is_low = c.in_ok-low.ensures.value;
  is_high = ap (evaluated c.args.upper.now) (sym (behind_map c.args.lower.now c.args.operands.now c.behind.result.now c.behind-rest.result.now c.behind.ensures c.behind-rest.ensures)) ∙ c.in_ok-high.ensures.value;
  step = c.between.ensures.step;
  first = c.between.ensures.first ∙ ap (λ l. pattern_of 64 (greatest l)) c.as_slice.ensures;
  count = c.between.ensures.count ∙ ap (λ l. turns (greatest l) (least c.as_slice-2.result.now) c.args.step) c.as_slice.ensures ∙ ap (λ l. turns (greatest c.in_ok-low.low.items) (least l) c.args.step) c.as_slice-2.ensures;
}
