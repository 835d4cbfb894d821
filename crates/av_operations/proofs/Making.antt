-- What the parts of a form make, one after another.
use Rattle.std.proofs.Common.{arith, ◌≡◌, ℕ, ◌<◌, ◌≤◌, List, [], ◌∷◌, ◌++◌, drop, length, slice_get, Option, Some, None, refl, ap, sym, ◌∙◌}
use Rattle.std.specs.Option.{option_map, option_and_then}
use Rattle.av_dialects.specs.declared.item.Item.{Item}
use Rattle.av_dialects.specs.declared.item.Lead.{Lead}
use Rattle.av_dialects.specs.declared.item.Lead.TheVariants as lead
use Rattle.av_dialects.specs.Rows.{Part, form_of}
use Rattle.av_tree.specs.declared.node.Node.{Node, out-Node, out-roll-Node, roll-Node}
use Rattle.av_tree.specs.declared.written.TypeText.{TypeText}
use Rattle.av_tree.specs.Forms.{form_symbols, item_symbols, lead_symbols}
use Rattle.av_values.specs.declared.gifts.Gift.{Gift}
use Rattle.std.specs.Prelude.{Result, Ok, Err, IfErr}
use Rattle.av_values.specs.declared.stack.Fault.{Fault}
use Rattle.av_values.specs.declared.stack.Fault.TheVariants.{Misshapen}
use Rattle.av_values.specs.declared.value.Value.{Value}
use Rattle.av_values.specs.Gifts.{Line, given, unwritten}
use Rattle.av_operations.specs.Taking.{item_taken, parts_taken}
use Rattle.av_values.specs.Made.{blank, by_row, gift_of, made_of, split, taken}
use Rattle.av_values.specs.Sorts.{All, Sort, a_node, any, on_top, sorts_of}
use Rattle.av_values.proofs.Taking.{replaced-taken, taken-behind, taken-not-behind}

-- ---- what is made of what is made
after-each : {T P Q : Type 0} (o : Option T) (f : T → Option P) (g : T → Option Q) (m : P → Q)
    → ((top : T) → g top ≡ option_map m (f top)) → option_and_then g o ≡ option_map m (option_and_then f o)
after-each None f g m h = refl
after-each (Some top) f g m h = h top

taken-through : {A B : Type 0} (ss : List Sort) (make : All ss → A) (f : A → B) (under : List Value)
    → taken ss (λ vs. f (make vs)) under ≡ option_map (λ (t : A × List Value). (f t.0, t.1)) (taken ss make under)
unfolding taken
taken-through [] make f under = refl
taken-through (t ∷ ss) make f under = after-each (on_top t under) _ _ _ (λ top. taken-through ss (λ others. make (top.0, others)) f top.1)

-- a lead has no value
lead-taken : (l : Lead) (under : List Value) → taken {A = Unit {0}} (sorts_of (lead_symbols l)) (λ _. tt) under ≡ Some (tt, under)
unfolding taken
lead-taken lead.Nothing under = refl
lead-taken lead.Blank under = refl
lead-taken lead.Comma under = refl
lead-taken lead.Colon under = refl
lead-taken lead.Equal under = refl
lead-taken lead.To under = refl
lead-taken lead.Step under = refl
lead-taken lead.Into under = refl
lead-taken lead.From under = refl

-- ---- parts
-- what the parts behind a gift make, and the gift given to it
abbrev with_gift : ℕ → ℕ → (ps : List Part) → List (Option TypeText) → Gift → All (sorts_of (form_symbols ps)) → Node
with_gift number place ps types own vs = roll-Node (given own (made_of number place ps (types ++ unwritten own.operands) vs))

behind-lead : (number place : ℕ) (p : Part) (ps : List Part) (types : List (Option TypeText)) (old : List Value) (after : Option (Node × List Value))
    → taken (sorts_of (item_symbols p.1 ++ form_symbols ps))
    (λ vs. let both = split (item_symbols p.1) (form_symbols ps) vs in with_gift number place ps types (gift_of p.1 both.0) both.1) old ≡ after
    → taken (sorts_of (form_symbols (p ∷ ps))) (λ vs. roll-Node (made_of number place (p ∷ ps) types vs)) old ≡ after
behind-lead number place p ps types old after h =
    taken-behind (lead_symbols p.0) (item_symbols p.1 ++ form_symbols ps) (λ _. tt)
    (λ _ vs. let both = split (item_symbols p.1) (form_symbols ps) vs in with_gift number place ps types (gift_of p.1 both.0) both.1)
    tt old old after (lead-taken p.0 old) h

-- what is made of parts, and what it is with a gift
after-gift : (own : Gift) (t : Option (Line × List Value)) (later : Node) (new : List Value) → option_map {U = Node × List Value} (λ (u : Line × List Value). (roll-Node u.0, u.1)) t ≡ Some (later, new)
    → option_map {U = Node × List Value} (λ (u : Line × List Value). (roll-Node (given own u.0), u.1)) t ≡ Some (roll-Node (given own (out-Node later)), new)
after-gift own None later new h = absurd (cc)
after-gift own (Some (line, rest)) later new h =
    ap (λ (l : Line). Some (roll-Node (given own l), rest)) (sym (out-roll-Node line))
    ∙ ap (option_map {U = Node × List Value} (λ (n : Node × List Value). (roll-Node (given own (out-Node n.0)), n.1))) h

nothing-after : (own : Gift) (t : Option (Line × List Value)) → option_map {U = Node × List Value} (λ (u : Line × List Value). (roll-Node u.0, u.1)) t ≡ None
    → option_map {U = Node × List Value} (λ (u : Line × List Value). (roll-Node (given own u.0), u.1)) t ≡ None
nothing-after own None h = refl
nothing-after own (Some u) h = absurd (cc)

pub part-made : (number place : ℕ) (p : Part) (ps : List Part) (types : List (Option TypeText)) (own : Gift) (old between new : List Value) (later node : Node)
    → item_taken p.1 old ≡ Some (own, between) → parts_taken number place ps (types ++ unwritten own.operands) between ≡ Some (later, new)
    → node ≡ roll-Node (given own (out-Node later)) → parts_taken number place (p ∷ ps) types old ≡ Some (node, new)
unfolding item_taken parts_taken
part-made number place p ps types own old between new later node g h e =
    let lines = taken (sorts_of (form_symbols ps)) (made_of number place ps (types ++ unwritten own.operands)) between in
    let given-later : taken (sorts_of (form_symbols ps)) (with_gift number place ps types own) between ≡ Some (roll-Node (given own (out-Node later)), new) =
    taken-through (sorts_of (form_symbols ps)) (made_of number place ps (types ++ unwritten own.operands)) (λ (l : Line). roll-Node (given own l)) between
    ∙ after-gift own lines later new
    (sym (taken-through (sorts_of (form_symbols ps)) (made_of number place ps (types ++ unwritten own.operands)) roll-Node between) ∙ h) in
    rw e (behind-lead number place p ps types old (Some (roll-Node (given own (out-Node later)), new))
    (taken-behind (item_symbols p.1) (form_symbols ps) (gift_of p.1) (with_gift number place ps types) own old between
    (Some (roll-Node (given own (out-Node later)), new)) g given-later))

pub part-missing : (number place : ℕ) (p : Part) (ps : List Part) (types : List (Option TypeText)) (old : List Value)
    → item_taken p.1 old ≡ None → parts_taken number place (p ∷ ps) types old ≡ None
unfolding item_taken parts_taken
part-missing number place p ps types old g =
    behind-lead number place p ps types old None
    (taken-not-behind (item_symbols p.1) (form_symbols ps) (gift_of p.1) (with_gift number place ps types) old g)

pub later-missing : (number place : ℕ) (p : Part) (ps : List Part) (types : List (Option TypeText)) (own : Gift) (old between : List Value)
    → item_taken p.1 old ≡ Some (own, between) → parts_taken number place ps (types ++ unwritten own.operands) between ≡ None
    → parts_taken number place (p ∷ ps) types old ≡ None
unfolding item_taken parts_taken
later-missing number place p ps types own old between g h =
    let lines = taken (sorts_of (form_symbols ps)) (made_of number place ps (types ++ unwritten own.operands)) between in
    let none-later : taken (sorts_of (form_symbols ps)) (with_gift number place ps types own) between ≡ None =
    taken-through (sorts_of (form_symbols ps)) (made_of number place ps (types ++ unwritten own.operands)) (λ (l : Line). roll-Node (given own l)) between
    ∙ nothing-after own lines
    (sym (taken-through (sorts_of (form_symbols ps)) (made_of number place ps (types ++ unwritten own.operands)) roll-Node between) ∙ h) in
    behind-lead number place p ps types old None
    (taken-behind (item_symbols p.1) (form_symbols ps) (gift_of p.1) (with_gift number place ps types) own old between None g none-later)

pub no-part : (number place : ℕ) (types : List (Option TypeText)) (old : List Value) → parts_taken number place [] types old ≡ Some (roll-Node (blank number place types), old)
unfolding parts_taken taken
no-part number place types old = refl

-- ---- the first of some parts
-- the item is that of the first part, and these are the parts behind it
abbrev pub IsFirst : Item → List Part → List Part → Type 0
IsFirst i ps behind = (1 ≤ length ps) × (option_map (λ (p : Part). p.1) (slice_get ps 0) ≡ Some i) × (behind ≡ drop 1 ps)

with-item : (i : Item) (old : List Value) {made : Option (Gift × List Value)} (ps behind : List Part) (x : Part)
    → IsFirst i (x ∷ ps) behind → item_taken i old ≡ made → item_taken x.1 old ≡ made
with-item i old ps behind x f g = let same : x.1 ≡ i = (let e = f.1 in cc) in ap (λ j. item_taken j old) same ∙ g

pub first-missing : (number place : ℕ) (i : Item) (types : List (Option TypeText)) (old : List Value) (ps behind : List Part)
    → IsFirst i ps behind → item_taken i old ≡ None → parts_taken number place ps types old ≡ None
first-missing number place i types old [] behind f g = absurd (let least : 1 ≤ 0 = f.0 in omega arith)
first-missing number place i types old (x ∷ ps) behind f g = part-missing number place x ps types old (with-item i old ps behind x f g)

module _ (number place : ℕ) (i : Item) (types all more : List (Option TypeText)) (operands : List (List ℕ)) (own : Gift) (old between : List Value) where
  -- a type is opened for each operand of the gift
  abbrev AreOpened : Type 0
  AreOpened = (all ≡ types ++ more) × (more ≡ unwritten operands) × (operands ≡ own.operands)

  with-types : {made : Option (Node × List Value)} (ps behind : List Part) (x : Part) → IsFirst i (x ∷ ps) behind → AreOpened
      → parts_taken number place behind all between ≡ made → parts_taken number place ps (types ++ unwritten own.operands) between ≡ made
  with-types ps behind x f o g =
      sym (ap (λ qs. parts_taken number place qs all between) f.2
      ∙ ap (λ ts. parts_taken number place ps ts between) (o.0 ∙ ap (λ ts. types ++ ts) (o.1 ∙ ap unwritten o.2))) ∙ g

  pub first-made : (ps behind : List Part) (new : List Value) (later node : Node) → IsFirst i ps behind → AreOpened
      → item_taken i old ≡ Some (own, between) → parts_taken number place behind all between ≡ Some (later, new) → node ≡ roll-Node (given own (out-Node later))
      → parts_taken number place ps types old ≡ Some (node, new)
  first-made [] behind new later node f o g h e = absurd (let least : 1 ≤ 0 = f.0 in omega arith)
  first-made (x ∷ ps) behind new later node f o g h e =
      part-made number place x ps types own old between new later node (with-item i old ps behind x f g) (with-types ps behind x f o h) e

  pub behind-missing : (ps behind : List Part) → IsFirst i ps behind → AreOpened
      → item_taken i old ≡ Some (own, between) → parts_taken number place behind all between ≡ None → parts_taken number place ps types old ≡ None
  behind-missing [] behind f o g h = absurd (let least : 1 ≤ 0 = f.0 in omega arith)
  behind-missing (x ∷ ps) behind f o g h =
      later-missing number place x ps types own old between (with-item i old ps behind x f g) (with-types ps behind x f o h)

pub nothing-made : (number place : ℕ) (ps : List Part) (types : List (Option TypeText)) (old : List Value) (node : Node) → length ps < 1
    → node ≡ roll-Node (blank number place types) → parts_taken number place ps types old ≡ Some (node, old)
nothing-made number place [] types old node h e = no-part number place types old ∙ ap (λ (n : Node). Some (n, old)) (sym e)
nothing-made number place (p ∷ ps) types old node h e = absurd (omega arith)

-- the same parts and types
pub same-parts : (number place : ℕ) (ps qs : List Part) (types others : List (Option TypeText)) (old : List Value) {made : Option (Node × List Value)} → ps ≡ qs → types ≡ others
    → parts_taken number place ps types old ≡ made → parts_taken number place qs others old ≡ made
same-parts number place ps qs types others old e f h =
    sym (ap (λ us. parts_taken number place us types old) e ∙ ap (λ ts. parts_taken number place qs ts old) f) ∙ h

-- what follows from the fault of a callee, which is passed on
pub through_fault : (T : Type 0) (r : Result T Fault) (fault : Fault) (P Q : Type 0) → IfErr r (λ given. given ≡ fault) → (fault ≡ Misshapen → P) → (P → Q)
    → IfErr r (λ given. given ≡ Misshapen → Q)
through_fault T (Ok x) fault P Q same h k = tt
through_fault T (Err given) fault P Q same h k = λ e. k (h (sym same ∙ e))

-- ---- the whole operation
pub operation-made : (number place : ℕ) (old new : List Value) (node : Node) → parts_taken number place (form_of number) [] old ≡ Some (node, new)
    → by_row number place old ≡ Some (any a_node node ∷ new)
unfolding parts_taken
operation-made number place old new node h =
    replaced-taken (sorts_of (form_symbols (form_of number))) a_node (λ (n : Node). n) (λ vs. roll-Node (made_of number place (form_of number) [] vs)) old
    ∙ ap (option_map (λ (t : Node × List Value). any a_node t.0 ∷ t.1)) h

pub operation-missing : (number place : ℕ) (old : List Value) → parts_taken number place (form_of number) [] old ≡ None → by_row number place old ≡ None
unfolding parts_taken
operation-missing number place old h =
    replaced-taken (sorts_of (form_symbols (form_of number))) a_node (λ (n : Node). n) (λ vs. roll-Node (made_of number place (form_of number) [] vs)) old
    ∙ ap (option_map (λ (t : Node × List Value). any a_node t.0 ∷ t.1)) h
