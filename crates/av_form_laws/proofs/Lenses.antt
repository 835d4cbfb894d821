-- What is put back where it was taken is the operation.
use Rattle.std.proofs.Common.{◌≡◌, ℕ, ◌-◌, zero, suc, List, [], ◌∷◌, ◌++◌, length, drop, set, Option, None, Some, slice_get, take, refl, ap, sym, ◌∙◌}
use Rattle.std.proofs.lemmas.List.{append-nil, length-map, length-set, map-append, take-append-drop}
use Rattle.av_tree.specs.declared.written.TypeText.{TypeText}
use Rattle.av_values.specs.Loops.{counter}
use Rattle.av_values.specs.declared.value.Expression.{Expression}
use Rattle.av_dialects.specs.declared.item.Item.{Item}
use Rattle.av_dialects.specs.declared.item.Item.TheVariants as item
use Rattle.av_dialects.specs.declared.item.Slot.{Slot}
use Rattle.av_dialects.specs.declared.item.Slot.TheVariants as slot
use Rattle.av_dialects.specs.declared.item.Slots.{Slots}
use Rattle.av_dialects.specs.declared.item.Slots.TheVariants as slots
use Rattle.av_tree.specs.declared.attribute.Named.{Named}
use Rattle.std.specs.Prelude.{codes}
use Rattle.av_form_laws.specs.Attributes.{constant_type, first_applied, first_constant}
use Rattle.av_form_laws.specs.Items.{AreCarried, AreNumbered, access_taken, applied_entry, bound_size, Fits, HasFirst, StandsAt, chosen, give, opened, rest, taken}
use Rattle.av_form_laws.specs.Loops.{Carrying, args_of, first_name, inits_of, paired, types_of}
use Rattle.av_form_laws.specs.Subscripts.{numbered_values}
use Rattle.av_form_laws.proofs.Regions.{args-back, last-twice, line-same}
use Rattle.av_form_laws.specs.Lines.{at_slot, cleared, first_text, known, type_at}
use Rattle.av_values.specs.Gifts.{Line, all_written, args_in, back, filled, front, put_at_slot, unwritten, with_args_in, with_last}

-- ---- operands
first-rest : (xs : List (List ℕ)) → HasFirst xs → first_text xs ∷ drop 1 xs ≡ xs
first-rest [] h = absurd h
first-rest (x ∷ xs) h = refl

front-back : {A : Type 0} (k : ℕ) (xs : List A) → front k xs ++ back k xs ≡ xs
front-back k xs = take-append-drop (length xs - k) xs

element-parts : (k : ℕ) (xs : List (List ℕ)) → HasFirst xs → first_text xs ∷ (front k (drop 1 xs) ++ back k (drop 1 xs)) ≡ xs
element-parts k xs h = ap (λ ys. first_text xs ∷ ys) (front-back k (drop 1 xs)) ∙ first-rest xs h

with-operands : (n : Line) (xs : List (List ℕ)) → xs ≡ n.operands → record n { operands = xs } ≡ n
with-operands n xs e = ap (λ (ys : List (List ℕ)). let m : Line = record n { operands = ys } in m) e

-- ---- types
set-back : {A : Type 0} (xs : List A) (i : ℕ) (x y : A) → slice_get xs i ≡ Some x → set (set xs i y) i x ≡ xs
set-back [] i x y h = cc
set-back (z ∷ zs) zero x y h = cc
set-back (z ∷ zs) (suc i) x y h = ap (λ ys. z ∷ ys) (set-back zs i x y h)

put-back : (s : Slot) (t : TypeText) (n : Line) → at_slot s n ≡ Some (Some t) → put_at_slot s (Some t) (put_at_slot s None n) ≡ n
put-back (slot.Input i) t n h =
    ap (λ (ts : List (Option TypeText)). let m : Line = record n { in_types = ts } in m) (set-back n.in_types i (Some t) None h)
put-back (slot.LastInput i) t n h =
    ap (λ (ts : List (Option TypeText)). let m : Line = record n { in_types = ts } in m)
    (ap (λ (c : ℕ). set (set n.in_types (length n.in_types - suc i) None) (c - suc i) (Some t))
    (length-set n.in_types (length n.in_types - suc i) None)
    ∙ set-back n.in_types (length n.in_types - suc i) (Some t) None h)
put-back slot.Output t n h =
    ap (λ (ts : List (Option TypeText)). let m : Line = record n { out_types = ts } in m) (set-back n.out_types 0 (Some t) None h)

filled-cleared : (s : Slots) (t : TypeText) (n : Line) → StandsAt s t n → filled s t (cleared s n) ≡ n
filled-cleared (slots.One a) t n h = put-back a t n h
filled-cleared (slots.Two a b) t n h = ap (put_at_slot a (Some t)) (put-back b t (put_at_slot a None n) h.1) ∙ put-back a t n h.0
filled-cleared (slots.Three a b c) t n h =
    ap (λ m. put_at_slot a (Some t) (put_at_slot b (Some t) m)) (put-back c t (put_at_slot b None (put_at_slot a None n)) h.2)
    ∙ ap (put_at_slot a (Some t)) (put-back b t (put_at_slot a None n) h.1) ∙ put-back a t n h.0

put-operands : (s : Slot) (t : Option TypeText) (n : Line) → (put_at_slot s t n).operands ≡ n.operands
put-operands (slot.Input i) t n = refl
put-operands (slot.LastInput i) t n = refl
put-operands slot.Output t n = refl

cleared-operands : (s : Slots) (n : Line) → (cleared s n).operands ≡ n.operands
cleared-operands (slots.One a) n = put-operands a None n
cleared-operands (slots.Two a b) n = put-operands b None (put_at_slot a None n) ∙ put-operands a None n
cleared-operands (slots.Three a b c) n =
    put-operands c None (put_at_slot b None (put_at_slot a None n)) ∙ put-operands b None (put_at_slot a None n) ∙ put-operands a None n

-- ---- a property and operands
applied-back : (k : ℕ) (n : Line) (e : Named) → n.properties ≡ e ∷ drop 1 n.properties
    → record n { operands = front k n.operands ++ back k n.operands; properties = e ∷ drop 1 n.properties } ≡ n
applied-back k n e h =
    ap (λ (xs : List (List ℕ)). let m : Line = record n { operands = xs; properties = e ∷ drop 1 n.properties } in m) (front-back k n.operands)
    ∙ ap (λ (ps : List Named). let m : Line = record n { properties = ps } in m) (sym h)

-- ---- bounds, carried values and subscripts
bound-back : (n : Line) (ps : List Named) → n.properties ≡ ps
    → record n { operands = take (bound_size n) n.operands ++ drop (bound_size n) n.operands; properties = ps } ≡ n
bound-back n ps h =
    ap (λ (xs : List (List ℕ)). let m : Line = record n { operands = xs; properties = ps } in m) (take-append-drop (bound_size n) n.operands)
    ∙ ap (λ (es : List Named). let m : Line = record n { properties = es } in m) (sym h)

access-back : (k : ℕ) (n : Line) (subscripts : List Expression) → HasFirst n.operands → AreNumbered subscripts k n
    → give item.Access (first_text n.operands, subscripts) (rest item.Access k n) ≡ n
access-back k n subscripts first h =
    let ops : first_text n.operands ∷ (numbered_values subscripts ++ back k (drop 1 n.operands)) ≡ n.operands =
    ap (λ xs. first_text n.operands ∷ (xs ++ back k (drop 1 n.operands))) (sym h.0) ∙ element-parts k n.operands first in
    line-same n _ _ _ _ _ ops (sym h.1) refl refl refl

-- as many types as values
same-length : (k : ℕ) (n : Line) (cs : List Carrying) → front k n.operands ≡ inits_of cs
    → length (all_written (types_of cs)) ≡ length (unwritten (front k n.operands))
same-length k n cs h =
    length-map (types_of cs) (λ (t : TypeText). Some t) ∙ length-map cs (λ (c : Carrying). c.0.ty) ∙ sym (length-map cs (λ (c : Carrying). c.1))
    ∙ ap length (sym h) ∙ sym (length-map (front k n.operands) (λ _. None))

carried-back : (k : ℕ) (n : Line) (cs : List Carrying) → AreCarried cs k n → give item.Carried cs (rest item.Carried k n) ≡ n
carried-back k n cs h =
    let ops : inits_of cs ++ back k n.operands ≡ n.operands = ap (λ xs. xs ++ back k n.operands) (sym h.1) ∙ front-back k n.operands in
    let bodies : with_args_in (args_of cs ++ args_in (with_args_in [] n.regions)) (with_args_in [] n.regions) ≡ n.regions =
    args-back (args_of cs) [] n.regions (h.0 ∙ sym (append-nil (args_of cs))) in
    let ins : with_last (all_written (types_of cs)) (with_last (unwritten (front k n.operands)) n.in_types) ≡ n.in_types =
    last-twice (all_written (types_of cs)) (unwritten (front k n.operands)) n.in_types (same-length k n cs h.1) ∙ sym h.2 in
    line-same n _ _ _ _ _ ops refl bodies ins (sym h.3)

-- ---- each item
-- put back where it was taken
pub give-taken : (i : Item) (k : ℕ) (n : Line) → Fits i k n → give i (taken i k n) (rest i k n) ≡ n
give-taken (item.Operand t) k n h = with-operands n _ (first-rest n.operands h)
give-taken item.OptionalOperand k n h = with-operands n _ (front-back k n.operands)
give-taken item.Operands k n h = with-operands n _ (front-back k n.operands)
give-taken item.TypedOperands k n h =
    ap (λ (xs : List (List ℕ)). let m : Line = record n { operands = xs; in_types = all_written (known n.in_types) } in m) (front-back k n.operands)
    ∙ ap (λ (ts : List (Option TypeText)). let m : Line = record n { in_types = ts } in m) (sym h.0)
give-taken item.Element k n h = with-operands n _ (element-parts k n.operands h)
give-taken (item.Type w s) k n h = filled-cleared s (type_at s n) n h.1
give-taken item.ChoiceTypes k n h =
    ap (λ (ts : List (Option TypeText)). let m : Line = record n { in_types = ts; out_types = Some (type_at chosen n) ∷ [] } in m) (sym h.2)
    ∙ ap (λ (ts : List (Option TypeText)). let m : Line = record n { out_types = ts } in m) (sym h.3)
give-taken (item.Word key) k n h = ap (λ ps. let m : Line = record n { properties = ps } in m) (sym h.1)
give-taken (item.Angled key) k n h = ap (λ ps. let m : Line = record n { properties = ps } in m) (sym h.1)
give-taken (item.Numbers key) k n h = ap (λ ps. let m : Line = record n { properties = ps } in m) (sym h)
give-taken item.Overflow k n h = ap (λ ps. let m : Line = record n { properties = ps } in m) (sym h.1)
give-taken item.Marks k n h = refl
give-taken item.Constant k n h =
    ap (λ ps. let m : Line = record n { properties = ps; out_types = constant_type (first_constant n.properties) ∷ [] } in m) (sym h.2)
    ∙ ap (λ (ts : List (Option TypeText)). let m : Line = record n { out_types = ts } in m) (sym h.1)
give-taken item.Map k n h = applied-back k n (applied_entry (codes "map") (first_applied n.properties)) h.1
give-taken item.Set k n h = applied-back k n (applied_entry (codes "condition") (first_applied n.properties)) h.1
give-taken item.Access k n h = access-back k n (access_taken k n).1 h.0 h.1
give-taken item.Counter k n h =
    ap (λ bodies. let m : Line = record n { regions = bodies } in m)
    (args-back (counter (first_name (args_in n.regions)) ∷ []) (drop 1 (args_in n.regions)) n.regions h)
give-taken item.LowerBound k n h = bound-back n _ h.1
give-taken item.UpperBound k n h = bound-back n _ h.1
give-taken item.Step k n h = ap (λ ps. let m : Line = record n { properties = ps } in m) (sym h)
give-taken item.Carried k n h = carried-back k n (paired (args_in n.regions) (front k n.operands)) h.0
give-taken item.ResultTypes k n h = ap (λ (ts : List (Option TypeText)). let m : Line = record n { out_types = ts } in m) (sym h.0)
give-taken item.Region k n h = ap (λ bodies. let m : Line = record n { regions = bodies } in m) (sym h)
give-taken item.Else k n h = ap (λ bodies. let m : Line = record n { regions = bodies } in m) (sym h)
give-taken item.ByHand k n h = absurd h

-- the operands of both parts are those of the operation
none-parts : (k : ℕ) (xs : List (List ℕ)) → unwritten (take k xs) ++ unwritten (drop k xs) ≡ unwritten xs
none-parts k xs = sym (map-append (λ _. None) (take k xs) (drop k xs)) ∙ ap unwritten (take-append-drop k xs)

none-each : (k : ℕ) (xs : List (List ℕ)) → unwritten (front k xs) ++ unwritten (back k xs) ≡ unwritten xs
none-each k xs = none-parts (length xs - k) xs

pub opened-taken : (i : Item) (k : ℕ) (n : Line) → Fits i k n → opened i (taken i k n) ++ unwritten (rest i k n).operands ≡ unwritten n.operands
opened-taken (item.Operand t) k n h = ap unwritten (first-rest n.operands h)
opened-taken item.OptionalOperand k n h = none-each k n.operands
opened-taken item.Operands k n h = none-each k n.operands
opened-taken item.TypedOperands k n h = none-each k n.operands
opened-taken item.Element k n h = ap (λ ts. None ∷ ts) (none-each k (drop 1 n.operands)) ∙ ap unwritten (first-rest n.operands h)
opened-taken (item.Type w s) k n h = ap unwritten (cleared-operands s n)
opened-taken item.ChoiceTypes k n h = refl
opened-taken (item.Word key) k n h = refl
opened-taken (item.Angled key) k n h = refl
opened-taken (item.Numbers key) k n h = refl
opened-taken item.Overflow k n h = refl
opened-taken item.Marks k n h = refl
opened-taken item.Constant k n h = refl
opened-taken item.Map k n h = none-each k n.operands
opened-taken item.Set k n h = none-each k n.operands
opened-taken item.Access k n h =
    ap (λ vs. None ∷ (unwritten vs ++ unwritten (back k (drop 1 n.operands)))) (sym h.1.0)
    ∙ ap (λ ts. None ∷ ts) (none-each k (drop 1 n.operands)) ∙ ap unwritten (first-rest n.operands h.0)
opened-taken item.Counter k n h = refl
opened-taken item.LowerBound k n h = none-parts (bound_size n) n.operands
opened-taken item.UpperBound k n h = none-parts (bound_size n) n.operands
opened-taken item.Step k n h = refl
opened-taken item.Carried k n h =
    ap (λ vs. unwritten vs ++ unwritten (back k n.operands)) (sym h.0.1) ∙ none-each k n.operands
opened-taken item.ResultTypes k n h = refl
opened-taken item.Region k n h = refl
opened-taken item.Else k n h = refl
opened-taken item.ByHand k n h = absurd h
