-- What is made of the values of a form's parts is what the row of the operation is defined to make of the values of its symbols. A list among these
-- holds its last item first.
use Rattle.std.specs.Prelude.{ℕ, pos, ◌≡◌, List, [], ◌∷◌, ◌++◌, drop, map, reverse}
use Rattle.av_tree.specs.declared.node.Node.{Node, out-Node, roll-Node}
use Rattle.av_tree.specs.declared.table.Symbol.{Symbol}
use Rattle.av_tree.specs.declared.table.Symbol.TheVariants as symbol
use Rattle.av_tree.specs.declared.written.TypeText.{TypeText}
use Rattle.av_tree.specs.Forms.{angled_symbols, form_symbols, item_symbols, lead_symbols, type_symbols, word_symbols}
use Rattle.av_values.specs.declared.value.Carried.{Carried}
use Rattle.av_values.specs.declared.value.CarriedPair.{CarriedPair}
use Rattle.av_values.specs.declared.value.MapUse.{MapUse}
use Rattle.av_values.specs.Made.{made as row_made}
use Rattle.av_values.specs.Sorts.{All, sorts_of}
use Rattle.av_dialects.specs.declared.item.Item.{Item}
use Rattle.av_dialects.specs.declared.item.Item.TheVariants as item
use Rattle.av_dialects.specs.declared.item.Key.{Key}
use Rattle.av_dialects.specs.declared.item.Key.TheVariants as key
use Rattle.av_dialects.specs.declared.item.Lead.{Lead}
use Rattle.av_dialects.specs.declared.item.Lead.TheVariants as lead
use Rattle.av_dialects.specs.declared.item.Wanted.{Wanted}
use Rattle.av_dialects.specs.declared.item.Wanted.TheVariants as wanted
use Rattle.av_dialects.specs.Rows.{Part, form_of, name_at, results_at}
use Rattle.av_form_laws.specs.Attributes.{Applied, applied_attr, constant_attr, constant_type}
use Rattle.av_form_laws.specs.Grammar.{Makes}
use Rattle.av_form_laws.specs.Lines.{first_text}
use Rattle.av_form_laws.specs.Loops.{Carrying, types_of}
use Rattle.av_form_laws.specs.Properties.{flag_entries}
use Rattle.av_form_laws.specs.Rows.{FitsRow, Head, head_of, made, values_of, words_of}
use Rattle.av_form_laws.specs.Values.{Of, Values}
use Rattle.av_form_laws.specs.Words.{Word}

-- ---- values of symbols
-- those of symbols one behind another
abbrev pub joined : (xs ys : List Symbol) → All (sorts_of xs) → All (sorts_of ys) → All (sorts_of (xs ++ ys))
joined [] ys us vs = vs
joined (symbol.Sign s ∷ xs) ys us vs = joined xs ys us vs
joined (symbol.Word w ∷ xs) ys us vs = joined xs ys us vs
joined (symbol.Token t ∷ xs) ys (u, us) vs = (u, joined xs ys us vs)
joined (symbol.Rows x ∷ xs) ys (u, us) vs = (u, joined xs ys us vs)

-- what stands before a part has none
abbrev pub lead_values : (l : Lead) → All (sorts_of (lead_symbols l))
lead_values lead.Nothing = tt
lead_values lead.Blank = tt
lead_values lead.Comma = tt
lead_values lead.Colon = tt
lead_values lead.Equal = tt
lead_values lead.To = tt
lead_values lead.Step = tt
lead_values lead.Into = tt
lead_values lead.From = tt

abbrev pub type_values : (w : Wanted) → TypeText → All (sorts_of (type_symbols w))
type_values wanted.Any t = (t, tt)
type_values wanted.Buffer t = (t, tt)
type_values wanted.Vector t = (t, tt)

abbrev pub word_values : (k : Key) → List ℕ → All (sorts_of (word_symbols k))
word_values key.Predicate word = (word, tt)
word_values key.Kind word = (word, tt)
word_values key.StaticPosition word = tt
word_values key.Mask word = tt

abbrev pub angled_values : (k : Key) → List ℕ → All (sorts_of (angled_symbols k))
angled_values key.Predicate word = (word, tt)
angled_values key.Kind word = (word, tt)
angled_values key.StaticPosition word = tt
angled_values key.Mask word = tt

-- a map with its operands, and carried values, as the rows have them
abbrev pub use_of : Applied × List (List ℕ) → MapUse
use_of v = record { map = applied_attr v.0; operands = v.1 }

abbrev pub pair_of : Carrying → CarriedPair
pair_of c = record { name = c.0.name; init = c.1 }

abbrev pub carried_of : List Carrying → Carried
carried_of cs = record { pairs = reverse (map pair_of cs); types = types_of cs }

abbrev pub item_values : (i : Item) → Of i → All (sorts_of (item_symbols i))
item_values (item.Operand _) v = (v, tt)
item_values item.OptionalOperand vs = (reverse vs, tt)
item_values item.Operands vs = (first_text vs, (reverse (drop 1 vs), tt))
item_values item.TypedOperands (vs, ts) = (record { values = reverse vs; types = reverse ts }, tt)
item_values item.Element (buffer, indices) = (buffer, (reverse indices, tt))
item_values (item.Type w _) t = type_values w t
item_values item.ChoiceTypes (condition, t) = (record { condition = condition; operands = t }, tt)
item_values (item.Word k) word = word_values k word
item_values (item.Angled k) word = angled_values k word
item_values (item.Numbers _) numbers = (reverse numbers, tt)
item_values item.Overflow flags = (reverse (flag_entries flags), tt)
item_values item.Marks es = (reverse es, tt)
item_values item.Constant c = (record { value = constant_attr c; ty = constant_type c }, tt)
item_values item.Map v = (use_of v, tt)
item_values item.Set v = (use_of v, tt)
item_values item.Access (buffer, subscripts) = (buffer, (reverse subscripts, tt))
item_values item.Counter name = (name, tt)
item_values item.LowerBound v = (use_of v, tt)
item_values item.UpperBound v = (use_of v, tt)
item_values item.Step s = (pos s, tt)
item_values item.Carried cs = (carried_of cs, tt)
item_values item.ResultTypes ts = (reverse ts, tt)
item_values item.Region nodes = (reverse nodes, tt)
item_values item.Else nodes = (reverse nodes, tt)
item_values item.ByHand v = tt

abbrev pub form_values : (ps : List Part) → Values ps → All (sorts_of (form_symbols ps))
form_values [] vs = tt
form_values (p ∷ ps) (v, vs) =
    joined (lead_symbols p.0) (item_symbols p.1 ++ form_symbols ps) (lead_values p.0)
    (joined (item_symbols p.1) (form_symbols ps) (item_values p.1 v) (form_values ps vs))

-- ---- what holds
-- the operation of this number, before its form is read
abbrev pub head_at : ℕ → ℕ → Head
head_at number place = record { name = name_at number; place = place; results = [] }

abbrev pub ReadingLaw : Type 0
ReadingLaw = (number place : ℕ) (ws : List Word) (vs : Values (form_of number)) → Makes (form_of number) ws vs
    → roll-Node (made (head_at number place) (results_at number) (form_of number) vs)
    ≡ row_made number place (form_values (form_of number) vs)

-- So an operation that fits the form of its row, and has no names of results yet, is what the row makes of the values of the words that are printed for it.
abbrev pub RowLaw : Type 0
RowLaw = (number : ℕ) (node : Node) → head_of (out-Node node) ≡ head_at number (out-Node node).place
    → FitsRow (results_at number) (form_of number) (out-Node node)
    → Makes (form_of number) (words_of (form_of number) (out-Node node)) (values_of (form_of number) (out-Node node))
    × (row_made number (out-Node node).place (form_values (form_of number) (values_of (form_of number) (out-Node node))) ≡ node)
