use Rattle.std.proofs.Common.{sym, ◌∙◌, ap, subst}
use Rattle.std.specs.Prelude.{Some}
use Rattle.std.proofs.lemmas.Result.{err_from_is_err_and}
use Rattle.av_ir.specs.Run.{word_at}
use Rattle.av_ir.specs.ScalarRun.{store_at}
use Rattle.av_scalar.specs.Names.{values}
use Rattle.av_scalar.specs.Stores.{memory_of}
use Rattle.av_scalar.proofs.Parts.{Fits, store_stops, results_behind, word_at-values}
use Rattle.av_scalar.proofs.operations.store_mapped.Goals as goal

pub returns-in_err-at-clause-stored : goal.returns-in_err-at-clause-stored
returns-in_err-at-clause-stored c = λ budget.
    let p = err_from_is_err_and c.from_residual.result c.from_residual.ensures.1 in
    rw (p.1, p.2)
    (store_stops c.args.number c.args.map.now c.args.operands.now c.behind.result.now (memory_of c.args.standing.now c.args.memory.now.items)
    (word_at (values c.args.operands.now) 1) (word_at (values c.args.operands.now) 0) c.in_err-at.field-0.0 c.behind.ensures c.in_err-at.ensures.stop budget)

pub returns-clause-stored : goal.returns-clause-stored
returns-clause-stored c = λ budget.
    subst (λ run. Fits run (memory_of c.args.standing.now c.store_element.new.memory.items) budget c.store_element.result)
    (ap (λ k. store_at c.args.number (memory_of c.args.standing.now c.args.memory.now.items) k c.word_at-pattern.result (Some c.as_slice.result.now)) (c.word_at-memref.ensures ∙ sym (word_at-values c.args.operands.now 1))
    ∙ ap (λ p. store_at c.args.number (memory_of c.args.standing.now c.args.memory.now.items) (word_at (values c.args.operands.now) 1) p (Some c.as_slice.result.now)) (c.word_at-pattern.ensures ∙ sym (word_at-values c.args.operands.now 0))
    ∙ ap (store_at c.args.number (memory_of c.args.standing.now c.args.memory.now.items) (word_at (values c.args.operands.now) 1) (word_at (values c.args.operands.now) 0))
    (results_behind c.args.map.now 2 c.args.operands.now c.behind.result.now c.as_slice.result.now c.behind.ensures (c.in_ok-at.ensures.value ∙ ap Some (sym c.as_slice.ensures))))
    (c.store_element.ensures.stored budget)
