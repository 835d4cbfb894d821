-- What is made of the values of a form's parts is what the row of the operation makes of the values of its symbols, item by item.
use Rattle.std.proofs.Common.{◌≡◌, ℕ, ◌||◌, Bool, true, false, List, [], ◌∷◌, ◌++◌, append_assoc, map, suc, Option, None, refl, reverse, ap, sym, ◌∙◌}
use Rattle.std.specs.Prelude.{if◌then◌else◌, pos}
use Rattle.std.proofs.lemmas.List.{append-nil, reverse-reverse}
use Rattle.av_tree.specs.declared.attribute.Attr.TheVariants as attr
use Rattle.av_tree.specs.declared.node.Node.{out-Node, roll-Node}
use Rattle.av_tree.specs.declared.node.BodyArg.{BodyArg}
use Rattle.av_tree.specs.declared.table.Symbol.{Symbol}
use Rattle.av_tree.specs.declared.table.Symbol.TheVariants as symbol
use Rattle.av_tree.specs.declared.written.TypeText.{TypeText}
use Rattle.av_tree.specs.Forms.{form_symbols, item_symbols, lead_symbols}
use Rattle.av_values.specs.declared.loops.CarriedLists.{CarriedLists}
use Rattle.av_values.specs.Gifts.{Line, all_written, given, region_of, unwritten, with_args_before, with_last}
use Rattle.av_values.specs.Loops.{carried_lists, with_pair, with_pairs}
use Rattle.av_values.specs.Made.{gift_of, made_of, split}
use Rattle.av_values.specs.Nodes.{entry}
use Rattle.av_values.specs.Sorts.{All, sorts_of}
use Rattle.av_values.specs.Spellings.{predicate_of}
use Rattle.av_dialects.specs.declared.item.Item.{Item}
use Rattle.av_dialects.specs.declared.item.Item.TheVariants as item
use Rattle.av_dialects.specs.declared.item.Key.{Key}
use Rattle.av_dialects.specs.declared.item.Key.TheVariants as key
use Rattle.av_dialects.specs.declared.item.Slots.{Slots}
use Rattle.av_dialects.specs.declared.item.Wanted.{Wanted}
use Rattle.av_dialects.specs.declared.item.Wanted.TheVariants as wanted
use Rattle.av_dialects.specs.Rows.{Part, form_of, predicates, property_of, results_at}
use Rattle.av_form_laws.specs.Grammar.{Always, Gives, Makes, Several, a_word, angled, one, one_more, operands, part}
use Rattle.av_form_laws.specs.Items.{HasFirst, give, opened}
use Rattle.av_form_laws.specs.Loops.{Carrying, args_of, inits_of, types_of}
use Rattle.av_form_laws.specs.Properties.{flag_entries, is_word_of, long, place_in}
use Rattle.av_form_laws.specs.Reading.{ReadingLaw, RowLaw, angled_values, carried_of, form_values, head_at, item_values, joined, lead_values, pair_of, type_values, word_values}
use Rattle.av_form_laws.specs.Rows.{Head, all_opened, blank, given as given_all, made, values_of, words_of}
use Rattle.av_form_laws.specs.Values.{Of, Values}
use Rattle.av_form_laws.proofs.Forms.{form-law}
use Rattle.av_form_laws.specs.Words.{Word, single, value}

-- ---- values of symbols
split-joined : (xs ys : List Symbol) (us : All (sorts_of xs)) (vs : All (sorts_of ys)) → split xs ys (joined xs ys us vs) ≡ (us, vs)
split-joined [] ys us vs = refl
split-joined (symbol.Sign s ∷ xs) ys us vs = split-joined xs ys us vs
split-joined (symbol.Word w ∷ xs) ys us vs = split-joined xs ys us vs
split-joined (symbol.Token t ∷ xs) ys (u, us) vs = ap (λ both. ((u, both.0), both.1)) (split-joined xs ys us vs)
split-joined (symbol.Rows x ∷ xs) ys (u, us) vs = ap (λ both. ((u, both.0), both.1)) (split-joined xs ys us vs)

-- ---- words of predicates
first-of-ten : (a b c d e f g h i j : Bool) → (a || (b || (c || (d || (e || (f || (g || (h || (i || (j || false)))))))))) ≡ true
    → (if a then 0 else (if b then 1 else (if c then 2 else (if d then 3 else (if e then 4 else (if f then 5 else (if g then 6 else (if h then 7 else (if i then 8 else 9)))))))))
    ≡ (if a then 0 else suc (if b then 0 else suc (if c then 0 else suc (if d then 0 else suc (if e then 0 else suc (if f then 0 else suc (if g then 0 else suc (if h then 0 else suc (if i then 0 else suc (if j then 0 else suc 0))))))))))
first-of-ten true b c d e f g h i j k = refl
first-of-ten false true c d e f g h i j k = refl
first-of-ten false false true d e f g h i j k = refl
first-of-ten false false false true e f g h i j k = refl
first-of-ten false false false false true f g h i j k = refl
first-of-ten false false false false false true g h i j k = refl
first-of-ten false false false false false false true h i j k = refl
first-of-ten false false false false false false false true i j k = refl
first-of-ten false false false false false false false false true j k = refl
first-of-ten false false false false false false false false false true k = refl
first-of-ten false false false false false false false false false false k = absurd (cc)

predicate-place : (word : List ℕ) → is_word_of key.Predicate word ≡ true → predicate_of word ≡ place_in predicates word
unfolding predicates
predicate-place word h = first-of-ten _ _ _ _ _ _ _ _ _ _ h

-- ---- carried values
lists-same : (inits inits' : List (List ℕ)) (args args' : List BodyArg) → inits ≡ inits' → args ≡ args'
    → (let l : CarriedLists = record { inits = inits; args = args } in l) ≡ record { inits = inits'; args = args' }
lists-same inits inits' args args' e f =
    ap (λ xs. let l : CarriedLists = record { inits = xs; args = args } in l) e ∙ ap (λ xs. let l : CarriedLists = record { inits = inits'; args = xs } in l) f

pairs-are : (lists : CarriedLists) (cs : List Carrying)
    → with_pairs lists (map pair_of cs) (types_of cs) ≡ record { inits = lists.inits ++ inits_of cs; args = lists.args ++ args_of cs }
unfolding with_pairs
pairs-are lists [] = lists-same lists.inits (lists.inits ++ []) lists.args (lists.args ++ []) (sym (append-nil lists.inits)) (sym (append-nil lists.args))
pairs-are lists (c ∷ cs) =
    pairs-are (with_pair lists (pair_of c) c.0.ty) cs
    ∙ lists-same _ _ _ _ (append_assoc lists.inits (c.1 ∷ []) (inits_of cs)) (append_assoc lists.args (c.0 ∷ []) (args_of cs))

carried-are : (cs : List Carrying) → record { inits = inits_of cs; args = args_of cs } ≡ carried_lists (reverse (carried_of cs).pairs) (carried_of cs).types
carried-are cs =
    sym (ap (λ ps. carried_lists ps (types_of cs)) (reverse-reverse (map pair_of cs)) ∙ pairs-are (record { inits = []; args = [] }) cs)

-- with carried values that are in these lists
abbrev with-lists : Line → List TypeText → CarriedLists → Line
with-lists n ts lists = record n {
  operands = lists.inits ++ n.operands;
  regions = with_args_before lists.args n.regions;
  in_types = with_last (all_written ts) n.in_types;
  out_types = all_written ts;
}

-- ---- what an item must be so that it is read
abbrev IsRead : (i : Item) → Of i → Type 0
IsRead item.Operands vs = HasFirst vs
IsRead (item.Word k) word = is_word_of k word ≡ true
IsRead (item.Angled k) word = is_word_of k word ≡ true
IsRead _ _ = Unit {0}

several-first : (ws : List Word) (vs : List (List ℕ)) → Several (single value) Always ws vs → HasFirst vs
several-first ws vs (one a h) = tt
several-first ws vs (one_more a us others h s) = tt

is-read : (i : Item) (ws : List Word) (v : Of i) → Gives i ws v → IsRead i v
is-read i ws v (operands us vs s) = several-first us vs s
is-read i ws v (a_word k word h) = h
is-read i ws v (angled k word h) = h
is-read i ws v g = tt

-- ---- items
given-type : (w : Wanted) (s : Slots) (t : TypeText) (n : Line) → give (item.Type w s) t n ≡ given (gift_of (item.Type w s) (type_values w t)) n
given-type wanted.Any s t n = refl
given-type wanted.Buffer s t n = refl
given-type wanted.Vector s t n = refl

-- a word of a property as the property
with-entry : (n : Line) (k : Key) (p q : ℕ) → p ≡ q
    → record n { properties = entry (property_of k) (attr.Number (pos q) long) ∷ n.properties } ≡ record n { properties = entry (property_of k) (attr.Number (pos p) long) ∷ n.properties }
with-entry n k p q e = ap (λ (x : ℕ). let m : Line = record n { properties = entry (property_of k) (attr.Number (pos x) long) ∷ n.properties } in m) (sym e)

given-word : (k : Key) (word : List ℕ) (n : Line) → is_word_of k word ≡ true → give (item.Word k) word n ≡ given (gift_of (item.Word k) (word_values k word)) n
given-word key.Predicate word n h = with-entry n key.Predicate (predicate_of word) (place_in predicates word) (predicate-place word h)
given-word key.Kind word n h = refl
given-word key.StaticPosition word n h = absurd (cc)
given-word key.Mask word n h = absurd (cc)

given-angled : (k : Key) (word : List ℕ) (n : Line) → is_word_of k word ≡ true → give (item.Angled k) word n ≡ given (gift_of (item.Angled k) (angled_values k word)) n
given-angled key.Predicate word n h = with-entry n key.Predicate (predicate_of word) (place_in predicates word) (predicate-place word h)
given-angled key.Kind word n h = refl
given-angled key.StaticPosition word n h = absurd (cc)
given-angled key.Mask word n h = absurd (cc)

-- two lists that are turned twice
turned : {A B C : Type 0} (f : List A → List B → C) (xs : List A) (ys : List B) → f xs ys ≡ f (reverse (reverse xs)) (reverse (reverse ys))
turned f xs ys = sym (ap (λ us. f us (reverse (reverse ys))) (reverse-reverse xs) ∙ ap (f xs) (reverse-reverse ys))

turned-once : {A C : Type 0} (f : List A → C) (xs : List A) → f xs ≡ f (reverse (reverse xs))
turned-once f xs = sym (ap f (reverse-reverse xs))

-- what is given of a value is what the row gives of it
given-same : (i : Item) (v : Of i) (n : Line) → IsRead i v → give i v n ≡ given (gift_of i (item_values i v)) n
given-same (item.Operand t) v n h = refl
given-same item.OptionalOperand vs n h = turned-once (λ us. let m : Line = record n { operands = us ++ n.operands } in m) vs
given-same item.Operands [] n h = absurd h
given-same item.Operands (v ∷ vs) n h = turned-once (λ us. let m : Line = record n { operands = v ∷ (us ++ n.operands) } in m) vs
given-same item.TypedOperands (vs, ts) n h =
    turned (λ us ss. let m : Line = record n { operands = us ++ n.operands; in_types = all_written ss } in m) vs ts
given-same item.Element (buffer, indices) n h = turned-once (λ us. let m : Line = record n { operands = buffer ∷ (us ++ n.operands) } in m) indices
given-same (item.Type w s) t n h = given-type w s t n
given-same item.ChoiceTypes (condition, t) n h = refl
given-same (item.Word k) word n h = given-word k word n h
given-same (item.Angled k) word n h = given-angled k word n h
given-same (item.Numbers k) numbers n h =
    turned-once (λ ns. let m : Line = record n { properties = entry (property_of k) (attr.Array long ns) ∷ n.properties } in m) numbers
given-same item.Overflow flags n h = turned-once (λ es. let m : Line = record n { properties = es ++ n.properties } in m) (flag_entries flags)
given-same item.Marks es n h = turned-once (λ xs. let m : Line = record n { attrs = xs } in m) es
given-same item.Constant c n h = refl
given-same item.Map (a, vs) n h = refl
given-same item.Set (a, vs) n h = refl
given-same item.Access (buffer, subscripts) n h = turned-once (λ ss. give item.Access (buffer, ss) n) subscripts
given-same item.Counter name n h = refl
given-same item.LowerBound (a, vs) n h = refl
given-same item.UpperBound (a, vs) n h = refl
given-same item.Step s n h = refl
given-same item.Carried cs n h = ap (with-lists n (types_of cs)) (carried-are cs)
given-same item.ResultTypes ts n h = turned-once (λ us. let m : Line = record n { out_types = all_written us } in m) ts
given-same item.Region nodes n h = turned-once (λ ns. let m : Line = record n { regions = region_of n.name ns ∷ n.regions } in m) nodes
given-same item.Else nodes n h = turned-once (λ ns. let m : Line = record n { regions = region_of n.name ns ∷ n.regions } in m) nodes
given-same item.ByHand v n h = refl

no-operand : (k : Key) (word : List ℕ) → [] ≡ unwritten (gift_of (item.Word k) (word_values k word)).operands
no-operand key.Predicate word = refl
no-operand key.Kind word = refl
no-operand key.StaticPosition word = refl
no-operand key.Mask word = refl

no-operand-angled : (k : Key) (word : List ℕ) → [] ≡ unwritten (gift_of (item.Angled k) (angled_values k word)).operands
no-operand-angled key.Predicate word = refl
no-operand-angled key.Kind word = refl
no-operand-angled key.StaticPosition word = refl
no-operand-angled key.Mask word = refl

no-operand-typed : (w : Wanted) (s : Slots) (t : TypeText) → [] ≡ unwritten (gift_of (item.Type w s) (type_values w t)).operands
no-operand-typed wanted.Any s t = refl
no-operand-typed wanted.Buffer s t = refl
no-operand-typed wanted.Vector s t = refl

-- and a type is opened for each operand that it gives
opened-same : (i : Item) (v : Of i) → IsRead i v → opened i v ≡ unwritten (gift_of i (item_values i v)).operands
opened-same (item.Operand t) v h = refl
opened-same item.OptionalOperand vs h = turned-once unwritten vs
opened-same item.Operands [] h = absurd h
opened-same item.Operands (v ∷ vs) h = turned-once (λ us. None ∷ unwritten us) vs
opened-same item.TypedOperands (vs, ts) h = turned-once unwritten vs
opened-same item.Element (buffer, indices) h = turned-once (λ us. None ∷ unwritten us) indices
opened-same (item.Type w s) t h = no-operand-typed w s t
opened-same item.ChoiceTypes (condition, t) h = refl
opened-same (item.Word k) word h = no-operand k word
opened-same (item.Angled k) word h = no-operand-angled k word
opened-same (item.Numbers k) numbers h = refl
opened-same item.Overflow flags h = refl
opened-same item.Marks es h = refl
opened-same item.Constant c h = refl
opened-same item.Map (a, vs) h = refl
opened-same item.Set (a, vs) h = refl
opened-same item.Access (buffer, subscripts) h = turned-once (λ ss. opened item.Access (buffer, ss)) subscripts
opened-same item.Counter name h = refl
opened-same item.LowerBound (a, vs) h = refl
opened-same item.UpperBound (a, vs) h = refl
opened-same item.Step s h = refl
opened-same item.Carried cs h = ap (λ (lists : CarriedLists). unwritten lists.inits) (carried-are cs)
opened-same item.ResultTypes ts h = refl
opened-same item.Region nodes h = refl
opened-same item.Else nodes h = refl
opened-same item.ByHand v h = refl

-- ---- parts
-- the values of a part and of those behind it are split again
behind-part : (number place : ℕ) (p : Part) (ps : List Part) (types : List (Option TypeText)) (v : Of p.1) (vs : Values ps)
    → made_of number place (p ∷ ps) types (form_values (p ∷ ps) (v, vs))
    ≡ (let own = gift_of p.1 (item_values p.1 v) in given own (made_of number place ps (types ++ unwritten own.operands) (form_values ps vs)))
behind-part number place p ps types v vs =
    let rest : All (sorts_of (item_symbols p.1)) × All (sorts_of (form_symbols ps)) → Line =
    λ both. let own = gift_of p.1 both.0 in given own (made_of number place ps (types ++ unwritten own.operands) both.1) in
    let behind = joined (item_symbols p.1) (form_symbols ps) (item_values p.1 v) (form_values ps vs) in
    ap (λ (both : All (sorts_of (lead_symbols p.0)) × All (sorts_of (item_symbols p.1 ++ form_symbols ps))). rest (split (item_symbols p.1) (form_symbols ps) both.1))
    (split-joined (lead_symbols p.0) (item_symbols p.1 ++ form_symbols ps) (lead_values p.0) behind)
    ∙ ap rest (split-joined (item_symbols p.1) (form_symbols ps) (item_values p.1 v) (form_values ps vs))

module _ (number place : ℕ) where
  parts-same : (ps : List Part) (types : List (Option TypeText)) (ws : List Word) (vs : Values ps) → Makes ps ws vs
      → given_all ps vs (blank (head_at number place) (results_at number) (types ++ all_opened ps vs)) ≡ made_of number place ps types (form_values ps vs)
  parts-same [] types ws vs m = ap (λ (ts : List (Option TypeText)). blank (head_at number place) (results_at number) ts) (append-nil types)
  parts-same (p ∷ ps) types ws (v, vs) (part q qs own later u us g m) =
      let read : IsRead p.1 v = is-read p.1 own v g in
      let gift = gift_of p.1 (item_values p.1 v) in
      let behind : List (Option TypeText) → Line = λ ts. give p.1 v (given_all ps vs (blank (head_at number place) (results_at number) ts)) in
      ap behind (sym (append_assoc types (opened p.1 v) (all_opened ps vs)))
      ∙ ap (λ ts. behind ((types ++ ts) ++ all_opened ps vs)) (opened-same p.1 v read)
      ∙ ap (give p.1 v) (parts-same ps (types ++ unwritten gift.operands) later vs m)
      ∙ given-same p.1 v (made_of number place ps (types ++ unwritten gift.operands) (form_values ps vs)) read
      ∙ sym (behind-part number place p ps types v vs)

pub reading-law : ReadingLaw
reading-law number place ws vs m = ap roll-Node (parts-same number place (form_of number) [] ws vs m)

pub row-law : RowLaw
row-law number node same h =
    let place = (out-Node node).place in
    let values = values_of (form_of number) (out-Node node) in
    let read = form-law (results_at number) (form_of number) node h in (
      read.0,
      sym (reading-law number place (words_of (form_of number) (out-Node node)) values read.0)
          ∙ ap (λ (head : Head). roll-Node (made head (results_at number) (form_of number) values)) (sym same) ∙ read.1,
    )
