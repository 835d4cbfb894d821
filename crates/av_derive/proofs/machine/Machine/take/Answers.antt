-- The symbol that stood next asked for the token, or nothing that begins so is derived.
use Rattle.std.proofs.Common.{◌∙◌, ◌+◌, refl, subst, take, get_or, add-one}
use Rattle.std.proofs.lemmas.Result.{on_ok_weaker, MatchResult-weaker}
use Rattle.std.proofs.Math.Seq.{take-suc}
use Rattle.av_tree.specs.declared.class.Class.TheVariants as class
use Rattle.av_derive.specs.declared.machine.Limits.{Limits}
use Rattle.av_derive.specs.Derivation.{NoneBegins}
use Rattle.av_derive.proofs.Refusals.{taken-more, token-refused, nothing-asked, next-class}
use Rattle.av_derive.proofs.Deep.{token-deep, token-plain, nothing-plain}
use Rattle.av_derive.proofs.machine.Machine.take.Goals as goal

pub returns-in-Some-clause-stands : goal.returns-in-Some-clause-stands
returns-in-Some-clause-stands c =
    let e = c.in_ok-symbol.ensures in
    on_ok_weaker c.shift.result
    (λ k. taken-more c.expand.new.self c.shift.new.self c.in-Some.symbol _ c.args.classes.now c.args.at
    (rw add-one (take-suc c.args.classes.now c.args.at class.End c.requires.within)) (next-class c.args.classes.now c.args.at class.End c.requires.within)
    (rw c.in-Some.is at e.expanded) (e.brackets ∙ c.requires.stands.depth) (rw e.limits c.requires.stands.brackets) k)
    c.shift.ensures.shifted

pub returns-in-Some-clause-wrong : goal.returns-in-Some-clause-wrong
returns-in-Some-clause-wrong c =
    let e = c.in_ok-symbol.ensures in
    MatchResult-weaker c.shift.result c.shift.ensures.wrong (λ _ h. h)
    (λ why w other. subst (λ (l : Limits). NoneBegins l (take (c.args.at + 1) c.args.classes.now)) e.limits
    (token-refused c.expand.new.self c.in-Some.symbol (get_or c.args.classes.now c.args.at class.End) c.args.classes.now c.args.at why c.requires.within refl
    (rw add-one (take-suc c.args.classes.now c.args.at class.End c.requires.within)) (rw c.in-Some.is at e.expanded)
    (e.brackets ∙ c.requires.stands.depth) w other))

pub returns-in-None-clause-wrong : goal.returns-in-None-clause-wrong
returns-in-None-clause-wrong c _ =
    let e = c.in_ok-symbol.ensures in
    subst (λ (l : Limits). NoneBegins l (take (c.args.at + 1) c.args.classes.now)) e.limits
    (nothing-asked c.expand.new.self c.args.classes.now c.args.at c.requires.within
    (rw add-one (take-suc c.args.classes.now c.args.at class.End c.requires.within)) (rw c.in-None.is at e.expanded) (e.empty c.in-None.is))

pub returns-in-Some-clause-deep : goal.returns-in-Some-clause-deep
returns-in-Some-clause-deep c =
    let e = c.in_ok-symbol.ensures in
    MatchResult-weaker c.shift.result c.shift.ensures.deep (λ _ h. h)
    (λ why d deep. let f = d deep in
    token-deep c.expand.new.self c.in-Some.symbol (get_or c.args.classes.now c.args.at class.End) c.args.classes.now c.args.at c.requires.within refl
    (rw add-one (take-suc c.args.classes.now c.args.at class.End c.requires.within)) (rw c.in-Some.is at e.expanded) f.0 f.1)

pub returns-in-Some-clause-plain : goal.returns-in-Some-clause-plain
returns-in-Some-clause-plain c =
    let e = c.in_ok-symbol.ensures in
    MatchResult-weaker c.shift.result c.shift.ensures.plain (λ _ h. h)
    (λ why d plain.
    token-plain c.expand.new.self c.in-Some.symbol (get_or c.args.classes.now c.args.at class.End) c.args.classes.now c.args.at c.requires.within refl
    (rw add-one (take-suc c.args.classes.now c.args.at class.End c.requires.within)) (rw c.in-Some.is at e.expanded) (d plain))

pub returns-in-None-clause-plain : goal.returns-in-None-clause-plain
returns-in-None-clause-plain c _ =
    let e = c.in_ok-symbol.ensures in
    nothing-plain c.expand.new.self c.args.classes.now c.args.at c.requires.within
    (rw add-one (take-suc c.args.classes.now c.args.at class.End c.requires.within)) (rw c.in-None.is at e.expanded) (e.empty c.in-None.is)
