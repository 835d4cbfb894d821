use Rattle.av_scalar.proofs.Parts.{element_gives, element_traps}
use Rattle.av_scalar.proofs.operations.give_element.Goals as goal

pub returns-in_ok-one-in-Ok : goal.returns-in_ok-one-in-Ok
returns-in_ok-one-in-Ok c = λ memory budget.
    rw c.in_ok-one-in-Ok.ensures (element_gives c.args.number c.args.element c.in-Ok.pattern c.in-Ok.is memory budget)

pub returns-in-Err : goal.returns-in-Err
returns-in-Err c = element_traps c.args.number c.args.element c.in-Err.field-0 c.in-Err.is
