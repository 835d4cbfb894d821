-- What the row of an operation makes of the values of its symbols: what each item of the form gives, from the last to the first. A list holds its last item first.
use Rattle.std.specs.Prelude.{ℕ, List, [], ◌∷◌, ◌++◌, codes, length, reverse, Option, None, Some}
use Rattle.std.specs.Option.{option_and_then}
use Rattle.av_dialects.specs.declared.item.Item.{Item}
use Rattle.av_dialects.specs.declared.item.Item.TheVariants as item
use Rattle.av_dialects.specs.declared.item.Key.{Key}
use Rattle.av_dialects.specs.declared.item.Key.TheVariants as key
use Rattle.av_dialects.specs.declared.item.Results.{Results}
use Rattle.av_dialects.specs.declared.item.Results.TheVariants as results
use Rattle.av_dialects.specs.declared.item.Slots.{Slots}
use Rattle.av_dialects.specs.declared.item.Wanted.{Wanted}
use Rattle.av_dialects.specs.declared.item.Wanted.TheVariants as wanted
use Rattle.av_dialects.specs.Rows.{Part, form_of, name_at, property_of, results_at}
use Rattle.av_tree.specs.declared.attribute.Attr.{Attr}
use Rattle.av_tree.specs.declared.attribute.Attr.TheVariants as attr
use Rattle.av_tree.specs.declared.node.Node.{Node, roll-Node}
use Rattle.av_tree.specs.declared.table.Symbol.{Symbol}
use Rattle.av_tree.specs.declared.table.Symbol.TheVariants as symbol
use Rattle.av_tree.specs.declared.table.Rule.TheVariants as rule
use Rattle.av_tree.specs.declared.written.TypeText.{TypeText}
use Rattle.av_tree.specs.Forms.{angled_symbols, form_symbols, item_symbols, lead_symbols, type_symbols, word_symbols}
use Rattle.av_tree.specs.Table.{symbols_of}
use Rattle.av_values.specs.declared.gifts.Change.{Change}
use Rattle.av_values.specs.declared.gifts.Change.TheVariants as change
use Rattle.av_values.specs.declared.gifts.Gift.{Gift}
use Rattle.av_values.specs.declared.value.Carried.{Carried}
use Rattle.av_values.specs.declared.value.Expression.{Expression}
use Rattle.av_values.specs.declared.value.MapUse.{MapUse}
use Rattle.av_values.specs.declared.value.Value.{Value}
use Rattle.av_values.specs.Accesses.{numbering}
use Rattle.av_values.specs.Gifts.{Line, given, unwritten}
use Rattle.av_values.specs.Loops.{carried_lists, step}
use Rattle.av_values.specs.Nodes.{entry}
use Rattle.av_values.specs.Sorts.{All, Of, Sort, a_node, on_top, replaced, sorts_of}
use Rattle.av_values.specs.Spellings.{kind, positions, predicate}

-- ---- values of symbols one behind another
abbrev pub split : (xs ys : List Symbol) → All (sorts_of (xs ++ ys)) → All (sorts_of xs) × All (sorts_of ys)
split [] ys vs = (tt, vs)
split (symbol.Sign s ∷ xs) ys vs = split xs ys vs
split (symbol.Word w ∷ xs) ys vs = split xs ys vs
split (symbol.Token t ∷ xs) ys (v, vs) = let rest = split xs ys vs in ((v, rest.0), rest.1)
split (symbol.Rows x ∷ xs) ys (v, vs) = let rest = split xs ys vs in ((v, rest.0), rest.1)

-- values of these sorts, the first of them on top, are taken off the stack, and this is made of them
unfoldable pub taken : {A : Type 0} (ss : List Sort) → (All ss → A) → List Value → Option (A × List Value)
taken [] make under = Some (make tt, under)
taken (t ∷ ss) make under = option_and_then (λ (top : Of t × List Value). taken ss (λ others. make (top.0, others)) top.1) (on_top t under)

-- ---- gifts
abbrev pub gift : List (List ℕ) → Change → Gift
gift operands change = record { operands = operands; change = change }

abbrev pub operands_alone : List (List ℕ) → Gift
operands_alone operands = gift operands change.Nothing

abbrev pub property_alone : List ℕ → Attr → Gift
property_alone name value = gift [] (change.Properties (entry name value ∷ []))

abbrev pub type_gift : (w : Wanted) → Slots → All (sorts_of (type_symbols w)) → Gift
type_gift wanted.Any s (type, _) = gift [] (change.Filled s type)
type_gift wanted.Buffer s (type, _) = gift [] (change.Filled s type)
type_gift wanted.Vector s (type, _) = gift [] (change.Filled s type)

abbrev pub word_gift : (k : Key) → All (sorts_of (word_symbols k)) → Gift
word_gift key.Predicate (word, _) = property_alone (property_of key.Predicate) (predicate word)
word_gift key.Kind (word, _) = property_alone (property_of key.Kind) (kind word)
word_gift _ _ = operands_alone []

abbrev pub angled_gift : (k : Key) → All (sorts_of (angled_symbols k)) → Gift
angled_gift key.Predicate (word, _) = property_alone (property_of key.Predicate) (predicate word)
angled_gift key.Kind (word, _) = property_alone (property_of key.Kind) (kind word)
angled_gift _ _ = operands_alone []

-- a map or set as this property, with its operands
abbrev pub applied : List ℕ → MapUse → Gift
applied name map_use = gift map_use.operands (change.Properties (entry name map_use.map ∷ []))

-- a buffer, and the operands and the map of its subscripts
abbrev pub access : List ℕ → List Expression → Gift
access buffer subscripts =
    let n = numbering (reverse subscripts) in
    applied (codes "map") (record { map = attr.Map n.map; operands = buffer ∷ (n.dims ++ n.syms) })

abbrev pub carrying : Carried → Gift
carrying carried =
    let lists = carried_lists (reverse carried.pairs) carried.types in
    gift lists.inits (change.Carrying lists.args carried.types)

-- what an item gives where its symbols have these values
abbrev pub gift_of : (i : Item) → All (sorts_of (item_symbols i)) → Gift
gift_of item.ByHand _ = operands_alone []
gift_of (item.Operand _) (value, _) = operands_alone (value ∷ [])
gift_of item.OptionalOperand (values, _) = operands_alone (reverse values)
gift_of item.Operands (first, (others, _)) = operands_alone (first ∷ reverse others)
gift_of item.TypedOperands (typed, _) = gift (reverse typed.values) (change.Typed (reverse typed.types))
gift_of item.Element (buffer, (indices, _)) = operands_alone (buffer ∷ reverse indices)
gift_of (item.Type w s) vs = type_gift w s vs
gift_of item.ChoiceTypes (types, _) = gift [] (change.Chosen types)
gift_of (item.Word k) vs = word_gift k vs
gift_of (item.Angled k) vs = angled_gift k vs
gift_of (item.Numbers k) (numbers, _) = property_alone (property_of k) (positions (reverse numbers))
gift_of item.Overflow (entries, _) = gift [] (change.Properties (reverse entries))
gift_of item.Marks (entries, _) = gift [] (change.Attributes (reverse entries))
gift_of item.Constant (constant, _) = gift [] (change.Valued constant)
gift_of item.Map (map_use, _) = applied (codes "map") map_use
gift_of item.Set (map_use, _) = applied (codes "condition") map_use
gift_of item.Access (buffer, (subscripts, _)) = access buffer subscripts
gift_of item.Counter (name, _) = gift [] (change.Counting name)
gift_of item.LowerBound (bound, _) = gift bound.operands (change.Lower bound.map (length bound.operands))
gift_of item.UpperBound (bound, _) = gift bound.operands (change.Upper bound.map (length bound.operands))
gift_of item.Step (by, _) = property_alone (codes "step") (step by)
gift_of item.Carried (carried, _) = carrying carried
gift_of item.ResultTypes (types, _) = gift [] (change.Results (reverse types))
gift_of item.Region (nodes, _) = gift [] (change.Region (reverse nodes))
gift_of item.Else (nodes, _) = gift [] (change.Region (reverse nodes))

-- ---- operations
abbrev pub unwritten_results : Results → List (Option TypeText)
unwritten_results (results.One _) = None ∷ []
unwritten_results _ = []

-- an operation of a number at a place, to which nothing is given yet, with these types for the operands to come
abbrev pub blank : ℕ → ℕ → List (Option TypeText) → Line
blank number place types = record {
  name = name_at number;
  place = place;
  results = [];
  operands = [];
  properties = [];
  attrs = [];
  regions = [];
  in_types = types;
  out_types = unwritten_results (results_at number);
}

-- what these parts give to an operation of a number, where this many types stand before those of their operands; none is written yet
abbrev pub made_of : ℕ → ℕ → (ps : List Part) → List (Option TypeText) → All (sorts_of (form_symbols ps)) → Line
made_of number place [] types vs = blank number place types
made_of number place (p ∷ ps) types vs =
    let behind = (split (lead_symbols p.0) (item_symbols p.1 ++ form_symbols ps) vs).1 in
    let both = split (item_symbols p.1) (form_symbols ps) behind in
    let own = gift_of p.1 both.0 in
    given own (made_of number place ps (types ++ unwritten own.operands) both.1)

abbrev pub made : (number : ℕ) → ℕ → All (sorts_of (symbols_of (rule.Operation number))) → Node
made number place vs = roll-Node (made_of number place (form_of number) [] vs)

-- what the row of an operation does to a stack of values
abbrev pub by_row : ℕ → ℕ → List Value → Option (List Value)
by_row number place = replaced (sorts_of (symbols_of (rule.Operation number))) a_node (λ values. Some (made number place values))
