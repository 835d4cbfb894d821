use Rattle.std.proofs.Common.{sym, ◌∙◌}
use Rattle.av_ir.specs.Run.{word_at}
use Rattle.av_ir.specs.ScalarRun.{buffer_of, index_at, size_at}
use Rattle.av_scalar.specs.Names.{values}
use Rattle.av_scalar.specs.Stores.{memory_of}
use Rattle.av_scalar.proofs.Parts.{size_asked, sizes_give, sizes_stop}
use Rattle.av_scalar.proofs.operations.size.Goals as goal

pub returns-in_ok-one-in-Some : goal.returns-in_ok-one-in-Some
returns-in_ok-one-in-Some c = λ budget.
    rw c.in_ok-one-in-Some.ensures
    (sizes_give c.args.number (size_at (buffer_of (memory_of c.args.standing.now c.args.memory.now.items) (word_at (values c.args.operands.now) 0)).sizes (index_at (values c.args.operands.now) 1)) (memory_of c.args.standing.now c.args.memory.now.items) c.in-Some.size
    (sym c.in-Some.is ∙ c.size.ensures ∙ size_asked (memory_of c.args.standing.now c.args.memory.now.items) c.args.operands.now c.word_at.result c.word_at-2.result c.word_at.ensures c.word_at-2.ensures) budget)

pub returns-in-None : goal.returns-in-None
returns-in-None c =
    sizes_stop c.args.number (size_at (buffer_of (memory_of c.args.standing.now c.args.memory.now.items) (word_at (values c.args.operands.now) 0)).sizes (index_at (values c.args.operands.now) 1)) (memory_of c.args.standing.now c.args.memory.now.items)
    (sym c.in-None.is ∙ c.size.ensures ∙ size_asked (memory_of c.args.standing.now c.args.memory.now.items) c.args.operands.now c.word_at.result c.word_at-2.result c.word_at.ensures c.word_at-2.ensures)
