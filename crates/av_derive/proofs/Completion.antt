-- Whatever is left on a stack can be derived, within the limits where it has room.
use Rattle.std.proofs.Common.{◌≡◌, ℕ, zero, suc, ◌+◌, ◌<◌, ◌≤◌, Bool, true, false, cond, IsTrue, List, [], ◌∷◌, ◌++◌, reverse, take, refl, sym, ap, subst, arith}
use Rattle.av_tree.specs.declared.class.Class.{Class}
use Rattle.av_tree.specs.declared.class.Class.TheVariants as class
use Rattle.av_tree.specs.declared.class.Keyword.TheVariants as key
use Rattle.av_tree.specs.declared.table.Test.{Test}
use Rattle.av_tree.specs.declared.table.Test.TheVariants as test
use Rattle.av_tree.specs.declared.table.Symbol.{Symbol}
use Rattle.av_tree.specs.declared.table.Symbol.TheVariants as symbol
use Rattle.av_tree.specs.declared.table.Name.{Name}
use Rattle.av_tree.specs.declared.table.Rule.{Rule}
use Rattle.av_tree.specs.Table.{symbols_of}
use Rattle.av_tree.specs.Classes.{fits_of, bracket_of}
use Rattle.av_tree.specs.Needs.{need_of}
use Rattle.av_tree.specs.Signs.{begins_expression}
use Rattle.av_tree.proofs.Depth.{need_of_name, no-bracket}
use Rattle.av_derive.specs.declared.machine.Event.{Event}
use Rattle.av_derive.specs.declared.machine.Event.TheVariants as event
use Rattle.av_derive.specs.declared.machine.Machine.{Machine}
use Rattle.av_derive.specs.Derivation.{Derives, Viable, nothing_left, by_sign, by_word, by_token, by_row, opened, WithinBrackets, signs_with, WithinSigns}
use Rattle.av_derive.specs.State.{Room, Stands, open_after, signs_after}
use Rattle.av_derive.proofs.Shortest.{shortest_of, steps_of, steps, row-of-name, fewer-steps, no-more-brackets, no-sign}
use Rattle.av_derive.proofs.Balance.{room-row, sign-within}
use Rattle.av_derive.proofs.Steps.{open-bound, counted-bound}

-- a class whose tokens fit the test
abbrev example_of : Test → Class
example_of test.Number = class.Zero
example_of test.Zero = class.Zero
example_of test.DimX = class.DimX
example_of test.ScalX = class.ScalX
example_of test.Scalar = class.Scalar
example_of test.ValId = class.ValId
example_of test.SymId = class.SymId
example_of test.CaretId = class.CaretId
example_of test.HashDigits = class.HashDigits
example_of test.HashWord = class.HashWord
example_of test.HashId = class.HashDigits
example_of test.AliasOnly = class.HashDigits
example_of test.String = class.QuotedModule
example_of test.ModuleString = class.QuotedModule
example_of test.FuncString = class.QuotedFunc
example_of test.Word = class.OtherWord
example_of test.Parameter = class.OtherWord
example_of test.EntryName = class.OtherWord
example_of test.Terminator = class.Word key.Terminator
example_of test.Predicate = class.Word key.Predicate
example_of test.Kind = class.Word key.Kind
example_of test.Bool = class.Word key.Bool
example_of test.Visibility = class.Word key.Visibility
example_of test.OverflowFlag = class.Word key.OverflowFlag
example_of test.Division = class.Word key.Division

example-fits : (t : Test) → IsTrue (fits_of t (example_of t))
example-fits test.Number = refl
example-fits test.Zero = refl
example-fits test.DimX = refl
example-fits test.ScalX = refl
example-fits test.Scalar = refl
example-fits test.ValId = refl
example-fits test.SymId = refl
example-fits test.CaretId = refl
example-fits test.HashDigits = refl
example-fits test.HashWord = refl
example-fits test.HashId = refl
example-fits test.AliasOnly = refl
example-fits test.String = refl
example-fits test.ModuleString = refl
example-fits test.FuncString = refl
example-fits test.Word = refl
example-fits test.Parameter = refl
example-fits test.EntryName = refl
example-fits test.Terminator = refl
example-fits test.Predicate = refl
example-fits test.Kind = refl
example-fits test.Bool = refl
example-fits test.Visibility = refl
example-fits test.OverflowFlag = refl
example-fits test.Division = refl

-- Classes and events that derive what is left; they keep the limits where it has room.
pub record Completed (n : ℕ) (ss : List Symbol) : Type 0 where
  pub more : List Class
  pub events : List Event
  pub derives : Derives n ss more events
  pub brackets : (most d : ℕ) → d ≤ most → Room most d ss → WithinBrackets most d more
  pub signs : (most s : ℕ) → s ≤ most → WithinSigns most s events

with-none : (n : ℕ) → Completed n []
with-none n = record { more = []; events = []; derives = nothing_left; brackets = λ most d h r. tt; signs = λ most s h. tt }

with-sign : (n : ℕ) (ss : List Symbol) (s : _) → Completed (suc n) ss → Completed n (symbol.Sign s ∷ ss)
with-sign n ss s rest = record {
  more = class.Sign s ∷ rest.more;
  events = rest.events;
  derives = by_sign refl rest.derives;
  brackets = λ most d h r.
      let next : opened (bracket_of (class.Sign s)) d ≤ most = sign-within (bracket_of (class.Sign s)) most d h r.0 in
      (next, rest.brackets most (opened (bracket_of (class.Sign s)) d) next r.1);
  signs = rest.signs;
}

with-word : (n : ℕ) (ss : List Symbol) (w : _) → Completed (suc n) ss → Completed n (symbol.Word w ∷ ss)
with-word n ss w rest = record {
  more = class.Word w ∷ rest.more;
  events = rest.events;
  derives = by_word refl rest.derives;
  brackets = λ most d h r. (h, rest.brackets most d h r);
  signs = rest.signs;
}

no-change : (t : Test) (d : ℕ) → opened (bracket_of (example_of t)) d ≡ d
no-change t d = ap (λ (b : _). opened b d) (no-bracket t (example_of t) (example-fits t))

with-token : (n : ℕ) (ss : List Symbol) (t : Test) → Completed (suc n) ss → Completed n (symbol.Token t ∷ ss)
with-token n ss t rest = record {
  more = example_of t ∷ rest.more;
  events = event.Token n ∷ rest.events;
  derives = by_token (example-fits t) rest.derives;
  brackets = λ most d h r. subst (λ (v : ℕ). (v ≤ most) × WithinBrackets most v rest.more) (sym (no-change t d)) (h, rest.brackets most d h r);
  signs = rest.signs;
}

uncounted : (begins : Bool) (s most : ℕ) → s ≤ most → cond begins 0 s + 0 ≤ most
uncounted true s most h = omega arith
uncounted false s most h = omega arith

with-row : (n : ℕ) (ss : List Symbol) (x : Name) → Completed n (symbols_of (shortest_of x) ++ ss) → Completed n (symbol.Rows x ∷ ss)
with-row n ss x rest =
    let r : Rule = shortest_of x in
    record {
      more = rest.more;
      events = event.Row r n ∷ rest.events;
      derives = by_row r (row-of-name x) rest.derives;
      brackets = λ most d h room.
          let own : need_of r ≤ need_of_name x = no-more-brackets x in
          let asks : d + need_of_name x ≤ most = room.0 in
          rest.brackets most d h (room-row r x ss most d (row-of-name x) (omega arith) room);
      signs = λ most s h.
          let after : signs_with r s ≤ most = rw (no-sign x) (uncounted (begins_expression r) s most h) in
          (after, rest.signs most (signs_with r s) after);
    }

steps-append : (xs ys : List Symbol) → steps (xs ++ ys) ≡ steps xs + steps ys
steps-append [] ys = omega arith
steps-append (symbol.Rows x ∷ xs) ys = let e : steps (xs ++ ys) ≡ steps xs + steps ys = steps-append xs ys in omega arith
steps-append (symbol.Sign s ∷ xs) ys = let e : steps (xs ++ ys) ≡ steps xs + steps ys = steps-append xs ys in omega arith
steps-append (symbol.Word s ∷ xs) ys = let e : steps (xs ++ ys) ≡ steps xs + steps ys = steps-append xs ys in omega arith
steps-append (symbol.Token s ∷ xs) ys = let e : steps (xs ++ ys) ≡ steps xs + steps ys = steps-append xs ys in omega arith

row-fewer : (k : ℕ) (x : Name) (ss : List Symbol) → steps (symbol.Rows x ∷ ss) ≤ suc k → steps (symbols_of (shortest_of x) ++ ss) ≤ k
row-fewer k x ss h =
    let e : steps (symbols_of (shortest_of x) ++ ss) ≡ steps (symbols_of (shortest_of x)) + steps ss = steps-append (symbols_of (shortest_of x)) ss in
    let f : steps (symbols_of (shortest_of x)) < steps_of x = fewer-steps x in
    omega arith

some-step : (x : Name) (ss : List Symbol) → steps (symbol.Rows x ∷ ss) ≤ 0 → ⊥
some-step x ss h =
    let f : steps (symbols_of (shortest_of x)) < steps_of x = fewer-steps x in
    omega arith

complete : (k n : ℕ) (ss : List Symbol) → steps ss ≤ k → Completed n ss
complete zero n [] h = with-none n
complete zero n (symbol.Sign s ∷ ss) h = absurd (omega arith)
complete zero n (symbol.Word w ∷ ss) h = absurd (omega arith)
complete zero n (symbol.Token t ∷ ss) h = absurd (omega arith)
complete zero n (symbol.Rows x ∷ ss) h = absurd (some-step x ss h)
complete (suc k) n [] h = with-none n
complete (suc k) n (symbol.Sign s ∷ ss) h = with-sign n ss s (complete k (suc n) ss (omega arith))
complete (suc k) n (symbol.Word w ∷ ss) h = with-word n ss w (complete k (suc n) ss (omega arith))
complete (suc k) n (symbol.Token t ∷ ss) h = with-token n ss t (complete k (suc n) ss (omega arith))
complete (suc k) n (symbol.Rows x ∷ ss) h = with-row n ss x (complete k n (symbols_of (shortest_of x) ++ ss) (row-fewer k x ss h))

pub completion : (n : ℕ) (ss : List Symbol) → Completed n ss
completion n ss = complete (steps ss) n ss (omega arith)

brackets-join : (most before : ℕ) (taken more : List Class) → WithinBrackets most before taken → WithinBrackets most (open_after before taken) more
    → WithinBrackets most before (taken ++ more)
brackets-join most before [] more w v = v
brackets-join most before (c ∷ taken) more w v = (w.0, brackets-join most (opened (bracket_of c) before) taken more w.1 v)

signs-join : (most before : ℕ) (es rest : List Event) → WithinSigns most before es → WithinSigns most (signs_after before es) rest
    → WithinSigns most before (es ++ rest)
signs-join most before [] rest w v = v
signs-join most before (event.Token k ∷ es) rest w v = signs-join most before es rest w v
signs-join most before (event.Row r k ∷ es) rest w v = (w.0, signs-join most (signs_with r before) es rest w.1 v)

-- What was taken can be completed.
pub viable : (m : Machine) (cs : List Class) (n : ℕ) → Stands m cs n → Viable m.limits (take n cs)
viable m cs n k =
    let c = completion n (reverse m.stack.items) in
    let low : m.depth ≤ m.limits.brackets = rw k.depth (open-bound m.limits.brackets 0 (take n cs) (omega arith) k.brackets) in
    let few : m.signs ≤ m.limits.signs = counted-bound k.signs in
    record {
      more = c.more;
      events = m.events.items ++ c.events;
      derived = record {
        derives = k.leads.whole c.more c.events c.derives;
        brackets = brackets-join m.limits.brackets 0 (take n cs) c.more k.brackets (rw k.depth at (c.brackets m.limits.brackets m.depth low k.room));
        signs = signs-join m.limits.signs 0 m.events.items c.events k.signs.within (rw k.signs.counted at (c.signs m.limits.signs m.signs few));
      };
    }
