use Rattle.std.proofs.Common.{sym, ◌∙◌, ap, subst}
use Rattle.std.specs.Prelude.{Some}
use Rattle.av_ir.specs.Run.{word_at}
use Rattle.av_ir.specs.ScalarRun.{load_at}
use Rattle.av_scalar.specs.Names.{values}
use Rattle.av_scalar.specs.Stores.{memory_of}
use Rattle.av_scalar.proofs.Parts.{Fits, subscripts_behind, word_at-values}
use Rattle.av_scalar.proofs.operations.load.Goals as goal

pub returns : goal.returns
returns c = λ budget.
    subst (λ run. Fits run (memory_of c.args.standing.now c.args.memory.now.items) budget c.load_element.result)
    (ap (λ k. load_at c.args.number (memory_of c.args.standing.now c.args.memory.now.items) k (Some c.deref.result.now)) (c.word_at-memref.ensures ∙ sym (word_at-values c.args.operands.now 0))
    ∙ ap (load_at c.args.number (memory_of c.args.standing.now c.args.memory.now.items) (word_at (values c.args.operands.now) 0))
    (subscripts_behind 1 c.args.operands.now c.behind.result.now c.deref.result.now c.behind.ensures (c.deref.ensures.value ∙ c.in_ok-at.ensures)))
    (c.load_element.ensures budget)
