use Rattle.std.proofs.Common.{sym, ◌∙◌, ap, subst}
use Rattle.std.specs.Prelude.{Some}
use Rattle.av_ir.specs.Run.{word_at}
use Rattle.av_ir.specs.ScalarRun.{store_at}
use Rattle.av_scalar.specs.Names.{values}
use Rattle.av_scalar.specs.Stores.{memory_of}
use Rattle.av_scalar.proofs.Parts.{Fits, subscripts_behind, word_at-values}
use Rattle.av_scalar.proofs.operations.store.Goals as goal

pub returns-clause-stored : goal.returns-clause-stored
returns-clause-stored c = λ budget.
    subst (λ run. Fits run (memory_of c.args.standing.now c.store_element.new.memory.items) budget c.store_element.result)
    (ap (λ k. store_at c.args.number (memory_of c.args.standing.now c.args.memory.now.items) k c.word_at-pattern.result (Some c.deref.result.now)) (c.word_at-memref.ensures ∙ sym (word_at-values c.args.operands.now 1))
    ∙ ap (λ p. store_at c.args.number (memory_of c.args.standing.now c.args.memory.now.items) (word_at (values c.args.operands.now) 1) p (Some c.deref.result.now)) (c.word_at-pattern.ensures ∙ sym (word_at-values c.args.operands.now 0))
    ∙ ap (store_at c.args.number (memory_of c.args.standing.now c.args.memory.now.items) (word_at (values c.args.operands.now) 1) (word_at (values c.args.operands.now) 0))
    (subscripts_behind 2 c.args.operands.now c.behind.result.now c.deref.result.now c.behind.ensures (c.deref.ensures.value ∙ c.in_ok-at.ensures)))
    (c.store_element.ensures.stored budget)
