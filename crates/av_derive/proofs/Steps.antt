-- What one row and one token do to what the machine keeps.
use Rattle.std.proofs.Common.{◌≡◌, ℕ, suc, IsTrue, ◌+◌, ◌<◌, ◌≤◌, false, List, [], ◌∷◌, ◌++◌, None, reverse, take, length, refl, sym, ◌∙◌, ap, subst, arith, append_assoc, add-one}
use Rattle.std.proofs.lemmas.List.{take_all, reverse-append, reverse-reverse, append-nil}
use Rattle.av_tree.specs.declared.class.Class.{Class}
use Rattle.av_tree.specs.declared.table.Symbol.{Symbol}
use Rattle.av_tree.specs.declared.table.Symbol.TheVariants as symbol
use Rattle.av_tree.specs.declared.table.Name.{Name}
use Rattle.av_tree.specs.declared.table.Rule.{Rule}
use Rattle.av_tree.specs.Table.{is_lighter, lead, symbols_of, name_of}
use Rattle.av_derive.proofs.Weights.{expanded}
use Rattle.av_tree.specs.Classes.{bracket_of}
use Rattle.av_derive.specs.declared.machine.Event.{Event}
use Rattle.av_derive.specs.declared.machine.Event.TheVariants as event
use Rattle.av_derive.specs.Derivation.{Derives, DerivesFile, Derived, nothing_left, by_sign, by_word, by_token, by_row, opened, WithinBrackets, signs_with, WithinSigns}
use Rattle.av_derive.specs.declared.machine.Limits.{Limits}
use Rattle.av_derive.specs.declared.machine.Machine.{Machine}
use Rattle.av_derive.specs.State.{Leads, Counted, open_after, signs_after, Fits, spelled, Expanded}

pub leads-row : {n : ℕ} {taken : List Class} {events : List Event} {x : Name} {ss : List Symbol} (r : Rule) → name_of r ≡ x
    → Leads n taken events (symbol.Rows x ∷ ss) → Leads n taken (events ++ event.Row r n ∷ []) (symbols_of r ++ ss)
leads-row {n} {taken} {events} r e l = record { whole = λ cs es d. rw append_assoc (l.whole cs (event.Row r n ∷ es) (by_row r e d)) }

one_token : (n : ℕ) (s : Symbol) (c : Class) (ss : List Symbol) (cs : List Class) (es : List Event) → Fits s c → Derives (suc n) ss cs es → Derives n (s ∷ ss) (c ∷ cs) (spelled s n ++ es)
one_token n (symbol.Sign s) c ss cs es e d = by_sign e d
one_token n (symbol.Word s) c ss cs es e d = by_word e d
one_token n (symbol.Token s) c ss cs es e d = by_token e d
one_token n (symbol.Rows s) c ss cs es e d = absurd e

pub leads-token : (n : ℕ) (taken : List Class) (events : List Event) (s : Symbol) (c : Class) (ss : List Symbol) → Fits s c
    → Leads n taken events (s ∷ ss) → Leads (n + 1) (taken ++ c ∷ []) (events ++ spelled s n) ss
leads-token n taken events s c ss e l = record {
  whole = λ cs es d.
      let d' : Derives (suc n) ss cs es = rw add-one at d in
      rw (append_assoc taken (c ∷ []) cs, append_assoc events (spelled s n) es) (l.whole (c ∷ cs) (spelled s n ++ es) (one_token n s c ss cs es e d'));
}

pub leads-all : {n : ℕ} {taken : List Class} {events : List Event} → Leads n taken events [] → DerivesFile taken events
leads-all {n} {taken} {events} l = rw (append-nil taken, append-nil events) at (l.whole [] [] nothing_left)

pub open-append : (before : ℕ) (taken : List Class) (c : Class) → open_after before (taken ++ c ∷ []) ≡ opened (bracket_of c) (open_after before taken)
open-append before [] c = refl
open-append before (x ∷ taken) c = open-append (opened (bracket_of x) before) taken c

pub brackets-append : (most before : ℕ) (taken : List Class) (c : Class) → WithinBrackets most before taken
    → opened (bracket_of c) (open_after before taken) ≤ most → WithinBrackets most before (taken ++ c ∷ [])
brackets-append most before [] c w h = (h, tt)
brackets-append most before (x ∷ taken) c w h = (w.0, brackets-append most (opened (bracket_of x) before) taken c w.1 h)

pub open-bound : (most before : ℕ) (taken : List Class) → before ≤ most → WithinBrackets most before taken → open_after before taken ≤ most
open-bound most before [] h w = h
open-bound most before (x ∷ taken) h w = open-bound most (opened (bracket_of x) before) taken w.0 w.1

pub signs-append : (before n : ℕ) (es : List Event) (r : Rule) → signs_after before (es ++ event.Row r n ∷ []) ≡ signs_with r (signs_after before es)
signs-append before n [] r = refl
signs-append before n (event.Token k ∷ es) r = signs-append before n es r
signs-append before n (event.Row q k ∷ es) r = signs-append (signs_with q before) n es r

within-append : (most before n : ℕ) (es : List Event) (r : Rule) → WithinSigns most before es
    → signs_with r (signs_after before es) ≤ most → WithinSigns most before (es ++ event.Row r n ∷ [])
within-append most before n [] r w h = (h, tt)
within-append most before n (event.Token k ∷ es) r w h = within-append most before n es r w h
within-append most before n (event.Row q k ∷ es) r w h = (w.0, within-append most (signs_with q before) n es r w.1 h)

pub signs-bound : (most before : ℕ) (es : List Event) → before ≤ most → WithinSigns most before es → signs_after before es ≤ most
signs-bound most before [] h w = h
signs-bound most before (event.Token k ∷ es) h w = signs-bound most before es h w
signs-bound most before (event.Row q k ∷ es) h w = signs-bound most (signs_with q before) es w.0 w.1

signs-token : (most before : ℕ) (s : Symbol) (n : ℕ) (es : List Event) → signs_after before (es ++ spelled s n) ≡ signs_after before es
signs-token most before (symbol.Sign s) n es = ap (signs_after before) (append-nil es)
signs-token most before (symbol.Word s) n es = ap (signs_after before) (append-nil es)
signs-token most before (symbol.Rows s) n es = ap (signs_after before) (append-nil es)
signs-token most before (symbol.Token s) n [] = refl
signs-token most before (symbol.Token s) n (event.Token k ∷ es) = signs-token most before (symbol.Token s) n es
signs-token most before (symbol.Token s) n (event.Row q k ∷ es) = signs-token most (signs_with q before) (symbol.Token s) n es

within-token : (most before : ℕ) (s : Symbol) (n : ℕ) (es : List Event) → WithinSigns most before es → WithinSigns most before (es ++ spelled s n)
within-token most before (symbol.Sign s) n es w = rw append-nil w
within-token most before (symbol.Word s) n es w = rw append-nil w
within-token most before (symbol.Rows s) n es w = rw append-nil w
within-token most before (symbol.Token s) n [] w = tt
within-token most before (symbol.Token s) n (event.Token k ∷ es) w = within-token most before (symbol.Token s) n es w
within-token most before (symbol.Token s) n (event.Row q k ∷ es) w = (w.0, within-token most (signs_with q before) (symbol.Token s) n es w.1)

pub counted-bound : {most signs : ℕ} {es : List Event} → Counted most signs es → signs ≤ most
counted-bound {most} {signs} {es} k = rw k.counted (signs-bound most 0 es (omega arith) k.within)

pub counted-row : {most signs : ℕ} {es : List Event} (after n : ℕ) (r : Rule) → Counted most signs es → after ≡ signs_with r signs → after ≤ most
    → Counted most after (es ++ event.Row r n ∷ [])
counted-row {most} {signs} {es} after n r k e h =
    let now : after ≡ signs_with r (signs_after 0 es) = e ∙ ap (signs_with r) k.counted in
    record {
      counted = now ∙ sym (signs-append 0 n es r);
      within = within-append most 0 n es r k.within (subst (λ (v : ℕ). v ≤ most) now h);
    }

pub counted-token : {most signs : ℕ} {es : List Event} (s : Symbol) (n : ℕ) → Counted most signs es → Counted most signs (es ++ spelled s n)
counted-token {most} {signs} {es} s n k = record {
  counted = k.counted ∙ sym (signs-token most 0 s n es);
  within = within-token most 0 s n es k.within;
}

pub next_off : (items : List Symbol) (s : Symbol) → reverse (items ++ s ∷ []) ≡ s ∷ reverse items
next_off items s = reverse-append items (s ∷ [])

pub row_on : (items row : List Symbol) → reverse (items ++ reverse row) ≡ row ++ reverse items
row_on items row = rw (reverse-append items (reverse row), reverse-reverse row)

pub stack-row : {n : ℕ} {taken : List Class} {events : List Event} (events' : List Event) (x : Name) (items popped after : List Symbol) (r : Rule)
    → items ≡ popped ++ symbol.Rows x ∷ [] → name_of r ≡ x → after ≡ popped ++ reverse (symbols_of r) → events' ≡ events ++ event.Row r n ∷ []
    → Leads n taken events (reverse items) → Leads n taken events' (reverse after)
stack-row {n} {taken} {events} events' x items popped after r e named e' f l =
    let on : Leads n taken events (symbol.Rows x ∷ reverse popped) = rw (e, next_off popped (symbol.Rows x)) at l in
    rw (e', f, row_on popped (symbols_of r)) (leads-row r named on)

pub finished : (m : Machine) (limits : Limits) (cs : List Class) (n : ℕ) → n ≡ length cs → Expanded m None cs n → m.stack.items ≡ []
    → m.over ≡ false → m.limits ≡ limits → WithinBrackets limits.brackets 0 (take n cs) → Derived limits cs m.events.items
finished m limits cs n all e empty under same within =
    let whole : take n cs ≡ cs = take_all n cs (omega arith) in
    let leads : Leads n cs m.events.items [] = rw (whole, empty) at e.leads in
    record {
      derives = leads-all leads;
      brackets = rw whole at within;
      signs = rw same at ((e.signs under).within);
    }

-- A name's place on the stack is taken by a row that weighs less.
pub stack-lighter : (r : Rule) (x : Name) (old popped new : List Symbol) → IsTrue (is_lighter r) → old ≡ popped ++ symbol.Rows x ∷ [] → name_of r ≡ x
    → new ≡ popped ++ reverse (symbols_of r) → lead (reverse new) < lead (reverse old)
stack-lighter r x old popped new light e f g =
    let after : reverse new ≡ symbols_of r ++ reverse popped = ap reverse g ∙ row_on popped (symbols_of r) in
    let before : reverse old ≡ symbol.Rows (name_of r) ∷ reverse popped =
    ap reverse e ∙ next_off popped (symbol.Rows x) ∙ ap (λ (y : Name). symbol.Rows y ∷ reverse popped) (sym f) in
    rw (after, before) (expanded r (reverse popped) light)
