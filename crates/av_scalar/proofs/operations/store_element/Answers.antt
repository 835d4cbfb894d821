use Rattle.std.proofs.Common.{sym, ◌∙◌}
use Rattle.av_scalar.specs.Stores.{memory_of}
use Rattle.av_scalar.proofs.Parts.{stores, stores_not}
use Rattle.av_scalar.proofs.operations.store_element.Goals as goal

pub returns-in-Some-clause-stored : goal.returns-in-Some-clause-stored
returns-in-Some-clause-stored c = λ budget.
    rw c.nothing.ensures
    (stores c.args.number (memory_of c.args.standing.now c.args.memory.now.items) c.args.memref c.args.at.now c.args.pattern c.in-Some.place (sym c.in-Some.is ∙ c.place.ensures) (memory_of c.args.standing.now c.store.new.memory.items) c.store.ensures.stored budget)

pub returns-in-None-clause-stored : goal.returns-in-None-clause-stored
returns-in-None-clause-stored c = stores_not c.args.number (memory_of c.args.standing.now c.args.memory.now.items) c.args.memref c.args.at.now c.args.pattern (sym c.in-None.is ∙ c.place.ensures)
