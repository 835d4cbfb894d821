-- A row goes on the stack in place of its name, and among the events.
use Rattle.std.proofs.Common.{◌∙◌, refl, arith, sym, ap, ◌++◌, ◌∷◌, [], inl, inr, reverse, take, true, false, Bool, ◌≡◌}
use Rattle.std.proofs.lemmas.Bool.{cases_Bool}
use Rattle.std.proofs.lemmas.List.{append-nil}
use Rattle.av_tree.specs.declared.table.Symbol.TheVariants as symbol
use Rattle.av_tree.specs.Table.{symbols_of, choice_of}
use Rattle.av_derive.specs.Derivation.{WithinBrackets}
use Rattle.av_derive.proofs.Steps.{stack-lighter, stack-row, counted-row, counted-bound, next_off}
use Rattle.av_derive.proofs.Refusals.{row-step, row-doomed}
use Rattle.av_derive.proofs.Deep.{stack-room, earlier-row, flag-row, fresh-flag, earlier-more, row-barren, low}
use Rattle.av_derive.proofs.machine.Machine.expand.Goals as goal

not-both : (b : Bool) → b ≡ true → b ≡ false → ⊥
not-both b e f = absurd (cc)

pub loop-symbol-init : goal.loop-symbol-init
loop-symbol-init c =
    let stands = c.requires in
    record {
      leads = stands.leads;
      signs = λ under. stands.signs;
      only = stands.only c.ahead-class.result;
      told = stands.told;
      doomed = λ over. absurd (cc);
      limits = refl;
      room = λ under. stands.room;
      earlier = earlier-more c.args.at c.args.self.now.events.items stands.earlier;
      flag = fresh-flag c.args.at c.args.self.now.events.items stands.earlier;
      barren = λ over. absurd (cc);
      depth = refl;
    }

pub loop-symbol-preserved : goal.loop-symbol-preserved
loop-symbol-preserved c =
    let old = c.loop-symbol.self in
    let new = c.enter.new.self in
    let kept = c.loop-symbol.invariant in
    let e = c.in_ok-enter-in-Rows.ensures in
    let within : WithinBrackets old.limits.brackets 0 (take c.args.at c.args.classes.now) = rw kept.limits c.requires.brackets in
    let popped : old.stack.items ≡ c.pop.new.self.items ++ symbol.Rows c.in-Rows.name ∷ [] = rw c.in-Rows.is at c.in-Some.ensures.items in
    let pushed : new.stack.items ≡ c.pop.new.self.items ++ reverse (symbols_of c.choose-rule.result) = cc (e.stack, c.in_ok-push_symbols-in-Rows.ensures.value) in
    let chose : choice_of c.in-Rows.name c.ahead-class.result ≡ c.choose-rule.result = sym c.choose-rule.ensures.choice in
    let step = row-step _ _ _ new.events.items _ _ _ new.stack.items _ _ popped c.choose-rule.ensures.name pushed e.events chose kept.only kept.told in
    record {
      leads = stack-row _ _ _ _ _ _ popped c.choose-rule.ensures.name pushed e.events kept.leads;
      signs = λ under. let k = kept.signs (e.under under) in
          rw (e.limits, e.events) (counted-row new.signs c.args.at c.choose-rule.result k (e.counted under) (e.signs under (counted-bound k)));
      only = step.0;
      told = step.1;
      doomed = λ over. elim (cases_Bool old.over) [
        | inl before ↦ rw e.limits (kept.doomed before)
        | inr under ↦ rw e.limits (row-doomed old.limits _ _ _ _ _ _ _ _ old.depth old.signs popped chose kept.only kept.told (kept.depth ∙ c.requires.depth) (kept.signs under).counted
            (λ a b. not-both new.over over (e.within under a b)))
      ];
      limits = e.limits ∙ kept.limits;
      room = λ under. rw (e.limits, e.brackets) (stack-room old.limits.brackets old.depth _ _ _ _ _ popped c.choose-rule.ensures.name pushed (e.room under) (kept.room (e.under under)));
      earlier = rw e.events (earlier-row c.args.at c.choose-rule.result old.events.items kept.earlier);
      barren = λ over closes. elim (cases_Bool old.over) [
        | inl before ↦ kept.barren before closes
        | inr under ↦ row-barren old.limits _ _ _ _ _ _ _ _ old.depth old.signs popped chose kept.only kept.told
            (low old.limits.brackets _ _ (kept.depth ∙ c.requires.depth) within) (counted-bound (kept.signs under))
            (λ a b. not-both new.over over (e.within under a b)) closes
      ];
      flag = rw e.events (flag-row old.counted new.counted c.args.at c.choose-rule.result old.events.items e.flag kept.flag);
      depth = e.brackets ∙ kept.depth;
    }

pub loop-symbol-smaller : goal.loop-symbol-smaller
loop-symbol-smaller c =
    let e = c.in_ok-enter-in-Rows.ensures in
    let popped : c.loop-symbol.self.stack.items ≡ c.pop.new.self.items ++ symbol.Rows c.in-Rows.name ∷ [] = rw c.in-Rows.is at c.in-Some.ensures.items in
    let pushed : c.enter.new.self.stack.items ≡ c.pop.new.self.items ++ reverse (symbols_of c.choose-rule.result) = cc (e.stack, c.in_ok-push_symbols-in-Rows.ensures.value) in
    stack-lighter c.choose-rule.result c.in-Rows.name _ _ _ c.push_symbols.ensures.lighter popped c.choose-rule.ensures.name pushed

pub returns-in-Sign : goal.returns-in-Sign
returns-in-Sign c =
    let kept = c.loop-symbol.invariant in
    let off : reverse c.loop-symbol.self.stack.items ≡ c.in-Some.symbol ∷ reverse c.pop.new.self.items = ap reverse c.in-Some.ensures.items ∙ next_off c.pop.new.self.items c.in-Some.symbol in
    record {
      expanded = record {
        leads = rw off at kept.leads;
        signs = kept.signs;
        only = rw (off, c.ahead-class.ensures) at kept.only;
        told = rw off at kept.told;
        doomed = λ o. rw c.ahead-class.ensures at (kept.doomed o);
        no_name = grind (arith, c.in-Sign.is);
        room = λ under. rw off at (kept.room under);
        earlier = kept.earlier;
        flag = kept.flag;
        barren = rw (c.ahead-class.ensures) at kept.barren;
      };
      empty = λ e. absurd (cc);
      limits = kept.limits;
      brackets = kept.depth;
    }

pub returns-clause-expanded : goal.returns-clause-expanded
returns-clause-expanded c =
    let kept = c.loop-symbol.invariant in
    let same : c.loop-symbol.self.stack.items ≡ c.pop.new.self.items = c.in_default.ensures.items ∙ append-nil _ in
    record {
      leads = rw same at kept.leads;
      signs = kept.signs;
      only = rw (same, c.ahead-class.ensures) at kept.only;
      told = rw same at kept.told;
      doomed = λ o. rw c.ahead-class.ensures at (kept.doomed o);
      no_name = refl;
      room = λ under. rw same at (kept.room under);
      earlier = kept.earlier;
      flag = kept.flag;
      barren = rw (c.ahead-class.ensures) at kept.barren;
    }
