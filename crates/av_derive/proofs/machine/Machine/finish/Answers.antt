-- Nothing is left on the stack, so the events derive all classes, or else more has to come.
use Rattle.std.proofs.Common.{subst}
use Rattle.av_derive.specs.declared.machine.Limits.{Limits}
use Rattle.av_derive.specs.Derivation.{NoneDerives}
use Rattle.av_derive.proofs.Steps.{finished}
use Rattle.av_derive.proofs.OneDerivation.{one-derivation}
use Rattle.av_derive.proofs.Refusals.{more-needed, end-doomed}
use Rattle.av_derive.proofs.machine.Machine.finish.Goals as goal

pub returns-else-self-clause-derived : goal.returns-else-self-clause-derived
returns-else-self-clause-derived c =
    let e = c.in_ok-expand.ensures in
    finished c.expand.new.self _ _ c.args.count c.requires.all (rw c.in-None.is at e.expanded) (e.empty c.in-None.is)
    c.if-self.false e.limits c.requires.stands.brackets

pub returns-else-self-clause-only : goal.returns-else-self-clause-only
returns-else-self-clause-only c other d = one-derivation d (returns-else-self-clause-derived c).derives

pub returns-in-Some-clause-wrong : goal.returns-in-Some-clause-wrong
returns-in-Some-clause-wrong c _ =
    let e = c.in_ok-expand.ensures in
    subst (λ (l : Limits). NoneDerives l c.args.classes.now) e.limits
    (more-needed c.expand.new.self _ _ c.args.count c.requires.all (rw c.in-Some.is at e.expanded))

pub returns-then-self-clause-wrong : goal.returns-then-self-clause-wrong
returns-then-self-clause-wrong c _ =
    let e = c.in_ok-expand.ensures in
    subst (λ (l : Limits). NoneDerives l c.args.classes.now) e.limits
    (end-doomed c.expand.new.self _ _ c.args.count c.requires.all e.expanded c.if-self.true)
