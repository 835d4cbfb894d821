-- The machine stands before its first token, and at last behind all of them.
use Rattle.std.proofs.Common.{◌≡◌, ℕ, length, take, subst, arith}
use Rattle.av_derive.specs.State.{Stands}
use Rattle.av_derive.specs.Derivation.{Viable}
use Rattle.av_derive.specs.declared.machine.Limits.{Limits}
use Rattle.av_derive.proofs.Completion.{viable}
use Rattle.av_derive.proofs.derivation.derive.Goals as goal

pub loop-at-init : goal.loop-at-init
loop-at-init c = record { stands = c.in-Ok-new.ensures.stands _; limits = c.in-Ok-new.ensures.limits }

pub finish-requires-clause-stands : goal.finish-requires-clause-stands
finish-requires-clause-stands c =
    let all : c.loop-at.at ≡ c.in-Ok.count = omega arith in
    subst (λ (n : ℕ). Stands c.loop-at.machine c.args.classes.now n) all c.loop-at.invariant.stands

pub returns-in-Err-take-clause-completable : goal.returns-in-Err-take-clause-completable
returns-in-Err-take-clause-completable c _ =
    let kept = c.loop-at.invariant in
    subst (λ (l : Limits). Viable l (take c.loop-at.at c.args.classes.now)) kept.limits (viable c.loop-at.machine c.args.classes.now c.loop-at.at kept.stands)

pub returns-in-Err-finish-clause-completable : goal.returns-in-Err-finish-clause-completable
returns-in-Err-finish-clause-completable c _ =
    let kept = c.loop-at.invariant in
    let all : c.loop-at.at ≡ length c.args.classes.now = omega arith in
    let k = subst (λ (n : ℕ). Stands c.loop-at.machine c.args.classes.now n) all kept.stands in
    subst (λ (l : Limits). Viable l (take (length c.args.classes.now) c.args.classes.now)) kept.limits
    (viable c.loop-at.machine c.args.classes.now (length c.args.classes.now) k)
