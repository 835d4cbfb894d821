use Rattle.std.proofs.Common.{sym, ◌∙◌}
use Rattle.av_scalar.specs.Stores.{memory_of}
use Rattle.av_scalar.proofs.Parts.{loads, loads_not}
use Rattle.av_scalar.proofs.operations.load_element.Goals as goal

pub returns-in_ok-one-in-Some : goal.returns-in_ok-one-in-Some
returns-in_ok-one-in-Some c = λ budget.
    rw c.in_ok-one-in-Some.ensures
    (loads c.args.number (memory_of c.args.standing.now c.args.memory.now.items) c.args.memref c.args.at.now c.in-Some.place c.load.result (sym c.in-Some.is ∙ c.place.ensures) c.load.ensures budget)

pub returns-in-None : goal.returns-in-None
returns-in-None c = loads_not c.args.number (memory_of c.args.standing.now c.args.memory.now.items) c.args.memref c.args.at.now (sym c.in-None.is ∙ c.place.ensures)
