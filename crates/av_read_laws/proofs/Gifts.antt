-- What the row of an operation makes, without places, item by item.
use Rattle.std.proofs.Common.{◌≡◌, ℕ, List, [], ◌∷◌, ◌++◌, map, Option, Some, refl, reverse, sym, ap, ◌∙◌}
use Rattle.av_tree.specs.declared.node.Body.{Body, Body-F, out-Body, roll-Body}
use Rattle.av_tree.specs.declared.node.BodyArg.{BodyArg}
use Rattle.av_tree.specs.declared.node.Node.{Node, roll-Node}
use Rattle.av_tree.specs.declared.table.Rule.TheVariants as rule
use Rattle.av_tree.specs.declared.table.Symbol.{Symbol}
use Rattle.av_tree.specs.declared.table.Symbol.TheVariants as symbol
use Rattle.av_tree.specs.declared.written.TypeText.{TypeText}
use Rattle.av_tree.specs.Forms.{angled_symbols, form_symbols, item_symbols, lead_symbols, type_symbols, word_symbols}
use Rattle.av_tree.specs.Table.{symbols_of}
use Rattle.av_dialects.specs.declared.item.Item.{Item}
use Rattle.av_dialects.specs.declared.item.Item.TheVariants as item
use Rattle.av_dialects.specs.declared.item.Key.{Key}
use Rattle.av_dialects.specs.declared.item.Key.TheVariants as key
use Rattle.av_dialects.specs.declared.item.Slot.{Slot}
use Rattle.av_dialects.specs.declared.item.Slot.TheVariants as slot
use Rattle.av_dialects.specs.declared.item.Slots.{Slots}
use Rattle.av_dialects.specs.declared.item.Slots.TheVariants as slots
use Rattle.av_dialects.specs.declared.item.Wanted.{Wanted}
use Rattle.av_dialects.specs.declared.item.Wanted.TheVariants as wanted
use Rattle.av_dialects.specs.Rows.{Part, form_of}
use Rattle.av_values.specs.declared.gifts.Change.{Change}
use Rattle.av_values.specs.declared.gifts.Change.TheVariants as change
use Rattle.av_values.specs.declared.gifts.Gift.{Gift}
use Rattle.av_values.specs.Gifts.{Line, changed, end_of, filled, given, put_at_slot, region_of, unwritten, with_args_before}
use Rattle.av_values.specs.Loops.{counter}
use Rattle.av_values.specs.Made.{angled_gift, gift_of, made, made_of, split, type_gift, word_gift}
use Rattle.av_values.specs.Sorts.{All, sort_of, sorts_of}
use Rattle.av_read_laws.specs.Places.{unplaced_body, unplaced_node}
use Rattle.av_read_laws.proofs.Nodes.{ended-body, layer, map-reverse, out-unplaced-body, unplaced-body, unplaced-roll}
use Rattle.av_read_laws.proofs.Values.{unplaced_all, unplaced_of}

-- ---- changes
abbrev unplaced_change : Change → Change
unplaced_change (change.Region nodes) = change.Region (map unplaced_node nodes)
unplaced_change c = c

abbrev unplaced_gift : Gift → Gift
unplaced_gift gift = record gift { change = unplaced_change gift.change }

slot-unplaced : (s : Slot) (t : Option TypeText) (n : Line) → layer (put_at_slot s t n) ≡ put_at_slot s t (layer n)
slot-unplaced (slot.Input i) t n = refl
slot-unplaced (slot.LastInput i) t n = refl
slot-unplaced slot.Output t n = refl

filled-unplaced : (s : Slots) (t : TypeText) (n : Line) → layer (filled s t n) ≡ filled s t (layer n)
filled-unplaced (slots.One a) t n = slot-unplaced a (Some t) n
filled-unplaced (slots.Two a b) t n = slot-unplaced a (Some t) (put_at_slot b (Some t) n) ∙ ap (put_at_slot a (Some t)) (slot-unplaced b (Some t) n)
filled-unplaced (slots.Three a b c) t n =
    slot-unplaced a (Some t) (put_at_slot b (Some t) (put_at_slot c (Some t) n))
    ∙ ap (put_at_slot a (Some t)) (slot-unplaced b (Some t) (put_at_slot c (Some t) n) ∙ ap (put_at_slot b (Some t)) (slot-unplaced c (Some t) n))

args-unplaced : (args : List BodyArg) (bodies : List Body) → map unplaced_body (with_args_before args bodies) ≡ with_args_before args (map unplaced_body bodies)
args-unplaced args [] = refl
args-unplaced args (body ∷ bodies) =
    ap (λ (b : Body). b ∷ map unplaced_body bodies)
    (unplaced-body (args ++ (out-Body body).args) (out-Body body).nodes
    ∙ sym (ap (λ (x : Body-F Body Node). roll-Body (record x { args = args ++ x.args })) (out-unplaced-body body)))

region-unplaced : (name : List ℕ) (nodes : List Node) → unplaced_body (region_of name nodes) ≡ region_of name (map unplaced_node nodes)
region-unplaced name nodes = ended-body [] (end_of name) nodes

abbrev with-regions : Line → List Body → Line
with-regions n bodies = record n { regions = bodies }

change-unplaced : (c : Change) (n : Line) → layer (changed c n) ≡ changed (unplaced_change c) (layer n)
change-unplaced change.Nothing n = refl
change-unplaced (change.Typed ts) n = refl
change-unplaced (change.Filled s t) n = filled-unplaced s t n
change-unplaced (change.Chosen c) n = refl
change-unplaced (change.Properties es) n = refl
change-unplaced (change.Attributes es) n = refl
change-unplaced (change.Valued c) n = refl
change-unplaced (change.Counting name) n = ap (with-regions (record n { place = 0 })) (args-unplaced (counter name ∷ []) n.regions)
change-unplaced (change.Lower map size) n = refl
change-unplaced (change.Upper map size) n = refl
change-unplaced (change.Carrying args ts) n =
    ap (with-regions (layer (changed (change.Carrying args ts) n))) (args-unplaced args n.regions)
change-unplaced (change.Results ts) n = refl
change-unplaced (change.Region nodes) n = ap (λ (b : Body). with-regions (layer n) (b ∷ map unplaced_body n.regions)) (region-unplaced n.name nodes)

given-unplaced : (gift : Gift) (n : Line) → layer (given gift n) ≡ given (unplaced_gift gift) (layer n)
given-unplaced gift n = ap (λ (m : Line). let x : Line = record m { operands = gift.operands ++ m.operands } in x) (change-unplaced gift.change n)

-- ---- items
type-unplaced : (w : Wanted) (s : Slots) (vs : All (sorts_of (type_symbols w)))
    → unplaced_gift (type_gift w s vs) ≡ type_gift w s (unplaced_all (sorts_of (type_symbols w)) vs)
type-unplaced wanted.Any s vs = refl
type-unplaced wanted.Buffer s vs = refl
type-unplaced wanted.Vector s vs = refl

word-unplaced : (k : Key) (vs : All (sorts_of (word_symbols k))) → unplaced_gift (word_gift k vs) ≡ word_gift k (unplaced_all (sorts_of (word_symbols k)) vs)
word-unplaced key.Predicate vs = refl
word-unplaced key.Kind vs = refl
word-unplaced key.StaticPosition vs = refl
word-unplaced key.Mask vs = refl

angled-unplaced : (k : Key) (vs : All (sorts_of (angled_symbols k)))
    → unplaced_gift (angled_gift k vs) ≡ angled_gift k (unplaced_all (sorts_of (angled_symbols k)) vs)
angled-unplaced key.Predicate vs = refl
angled-unplaced key.Kind vs = refl
angled-unplaced key.StaticPosition vs = refl
angled-unplaced key.Mask vs = refl

turned-unplaced : (nodes : List Node)
    → unplaced_gift (record { operands = []; change = change.Region (reverse nodes) }) ≡ record { operands = []; change = change.Region (reverse (map unplaced_node nodes)) }
turned-unplaced nodes = ap (λ (ns : List Node). let g : Gift = record { operands = []; change = change.Region ns } in g) (map-reverse unplaced_node nodes)

item-unplaced : (i : Item) (vs : All (sorts_of (item_symbols i))) → unplaced_gift (gift_of i vs) ≡ gift_of i (unplaced_all (sorts_of (item_symbols i)) vs)
item-unplaced (item.Type w s) vs = type-unplaced w s vs
item-unplaced (item.Word k) vs = word-unplaced k vs
item-unplaced (item.Angled k) vs = angled-unplaced k vs
item-unplaced item.Region (nodes, end) = turned-unplaced nodes
item-unplaced item.Else (nodes, end) = turned-unplaced nodes
item-unplaced i vs = refl

-- ---- parts
split-unplaced : (xs ys : List Symbol) (vs : All (sorts_of (xs ++ ys)))
    → split xs ys (unplaced_all (sorts_of (xs ++ ys)) vs) ≡ (unplaced_all (sorts_of xs) (split xs ys vs).0, unplaced_all (sorts_of ys) (split xs ys vs).1)
split-unplaced [] ys vs = refl
split-unplaced (symbol.Sign s ∷ xs) ys vs = split-unplaced xs ys vs
split-unplaced (symbol.Word w ∷ xs) ys vs = split-unplaced xs ys vs
split-unplaced (symbol.Token t ∷ xs) ys (v, vs) = ap (λ both. ((v, both.0), both.1)) (split-unplaced xs ys vs)
split-unplaced (symbol.Rows x ∷ xs) ys (v, vs) = ap (λ both. ((unplaced_of (sort_of x) v, both.0), both.1)) (split-unplaced xs ys vs)

module _ (number place : ℕ) where
  made_of-unplaced : (ps : List Part) (ts : List (Option TypeText)) (vs : All (sorts_of (form_symbols ps)))
      → layer (made_of number place ps ts vs) ≡ made_of number 0 ps ts (unplaced_all (sorts_of (form_symbols ps)) vs)
  made_of-unplaced [] ts vs = refl
  made_of-unplaced (p ∷ ps) ts vs =
      let behind = (split (lead_symbols p.0) (item_symbols p.1 ++ form_symbols ps) vs).1 in
      let both = split (item_symbols p.1) (form_symbols ps) behind in
      let own = gift_of p.1 both.0 in
      let later = unplaced_all (sorts_of (form_symbols ps)) both.1 in
      let rest : All (sorts_of (item_symbols p.1)) × All (sorts_of (form_symbols ps)) → Line =
      λ us. let g = gift_of p.1 us.0 in given g (made_of number 0 ps (ts ++ unwritten g.operands) us.1) in
      given-unplaced own (made_of number place ps (ts ++ unwritten own.operands) both.1)
      ∙ ap (given (unplaced_gift own)) (made_of-unplaced ps (ts ++ unwritten own.operands) both.1)
      ∙ ap (λ (g : Gift). given g (made_of number 0 ps (ts ++ unwritten g.operands) later)) (item-unplaced p.1 both.0)
      ∙ sym (ap (λ (b : All (sorts_of (lead_symbols p.0)) × All (sorts_of (item_symbols p.1 ++ form_symbols ps))). rest (split (item_symbols p.1) (form_symbols ps) b.1))
      (split-unplaced (lead_symbols p.0) (item_symbols p.1 ++ form_symbols ps) vs)
      ∙ ap rest (split-unplaced (item_symbols p.1) (form_symbols ps) behind))

  pub operation-unplaced : (vs : All (sorts_of (symbols_of (rule.Operation number))))
      → unplaced_node (made number place vs) ≡ made number 0 (unplaced_all (sorts_of (symbols_of (rule.Operation number))) vs)
  operation-unplaced vs = unplaced-roll (made_of number place (form_of number) [] vs) ∙ ap roll-Node (made_of-unplaced (form_of number) [] vs)
