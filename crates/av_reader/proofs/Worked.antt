-- Working events out one by one, from the last to the first.
use Rattle.std.proofs.Common.{◌≡◌, ℕ, List, [], ◌∷◌, ◌++◌, Option, Some, None, refl, sym, ap, ◌∙◌, append_assoc}
use Rattle.std.specs.Option.{option_and_then}
use Rattle.std.specs.Prelude.{Result, Ok, Err, IfErr}
use Rattle.std.specs.Result.{IsErrAnd}
use Rattle.std.proofs.lemmas.List.{append-nil}
use Rattle.av_lex.specs.declared.token.Token.{Token}
use Rattle.av_derive.specs.declared.machine.Event.{Event}
use Rattle.av_values.specs.declared.stack.Fault.{Fault}
use Rattle.av_values.specs.declared.stack.Fault.TheVariants.{Misshapen}
use Rattle.av_values.specs.declared.value.Value.{Value}
use Rattle.av_values.specs.Sorts.{only_tree}
use Rattle.av_reader.specs.Building.{by_event, tree_of, values_of}

-- the events that are worked out, and those that are left
pub record Worked (bytes : List ℕ) (tokens : List Token) (all left : List Event) (values : List Value) : Type 0 where
  pub done : List Event
  pub splits : left ++ done ≡ all
  pub made : values_of bytes tokens done ≡ Some values

pub none-worked : (bytes : List ℕ) (tokens : List Token) (all : List Event) (values : List Value) → values ≡ [] → Worked bytes tokens all all values
unfolding values_of
none-worked bytes tokens all values e = record { done = []; splits = append-nil all; made = ap Some (sym e) }

pub one-more : (bytes : List ℕ) (tokens : List Token) (next : Event) (done : List Event) (under : List Value) (after : Option (List Value))
    → values_of bytes tokens done ≡ Some under → by_event bytes tokens next under ≡ after → values_of bytes tokens (next ∷ done) ≡ after
unfolding values_of
one-more bytes tokens next done under after e f = ap (option_and_then (by_event bytes tokens next)) e ∙ f

pub one-worked : (bytes : List ℕ) (tokens : List Token) (all before left : List Event) (next : Event) (values after : List Value) → before ≡ left ++ next ∷ []
    → by_event bytes tokens next values ≡ Some after → Worked bytes tokens all before values → Worked bytes tokens all left after
one-worked bytes tokens all before left next values after e f w = record {
  done = next ∷ w.done;
  splits = sym (append_assoc left (next ∷ []) w.done) ∙ ap (λ (l : List Event). l ++ w.done) (sym e) ∙ w.splits;
  made = one-more bytes tokens next w.done values (Some after) w.made f;
}

none-before : (bytes : List ℕ) (tokens : List Token) (front done : List Event) → values_of bytes tokens done ≡ None → values_of bytes tokens (front ++ done) ≡ None
unfolding values_of
none-before bytes tokens [] done e = e
none-before bytes tokens (next ∷ front) done e = ap (option_and_then (by_event bytes tokens next)) (none-before bytes tokens front done e)

pub no-values : (bytes : List ℕ) (tokens : List Token) (all before left : List Event) (next : Event) (values : List Value) → before ≡ left ++ next ∷ []
    → by_event bytes tokens next values ≡ None → Worked bytes tokens all before values → tree_of bytes tokens all ≡ None
no-values bytes tokens all before left next values e f w =
    let splits : left ++ next ∷ w.done ≡ all = sym (append_assoc left (next ∷ []) w.done) ∙ ap (λ (l : List Event). l ++ w.done) (sym e) ∙ w.splits in
    let none : values_of bytes tokens (left ++ next ∷ w.done) ≡ None = none-before bytes tokens left (next ∷ w.done) (one-more bytes tokens next w.done values None w.made f) in
    ap (option_and_then only_tree) (ap (values_of bytes tokens) (sym splits) ∙ none)

pub all-worked : (bytes : List ℕ) (tokens : List Token) (all left : List Event) (values : List Value) → left ≡ [] → Worked bytes tokens all left values
    → tree_of bytes tokens all ≡ only_tree values
all-worked bytes tokens all left values e w =
    let splits : w.done ≡ all = ap (λ (l : List Event). l ++ w.done) (sym e) ∙ w.splits in
    ap (option_and_then only_tree) (ap (values_of bytes tokens) (sym splits) ∙ w.made)

-- a fault that is handed on means what it meant
pub handed_on : (T : Type 0) (r : Result T Fault) (fault : Fault) (Q : Type 0) → IsErrAnd r (λ e. e ≡ fault) → (fault ≡ Misshapen → Q) → IfErr r (λ e. e ≡ Misshapen → Q)
handed_on T (Ok x) fault Q h q = tt
handed_on T (Err e) fault Q h q = λ m. q (sym h ∙ m)
