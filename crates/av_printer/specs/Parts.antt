-- The parts of forms of operations, each with what stands before it and what it takes of the operands that are left.
-- A part that the operation lacks is left out; what stands before it stays.
use Rattle.std.specs.Prelude.{ℕ, suc, ◌+◌, ◌-◌, ℤ, pos, negsuc, Bool, true, false, List, [], ◌∷◌, ◌++◌, map, length, take, drop, Option, Some, None, if◌then◌else◌, get_or, codes}
use Rattle.av_lex.specs.declared.token.Kind.TheVariants as kinds
use Rattle.av_lex.specs.declared.token.Sign.TheVariants.{OpenAngle, CloseAngle, Colon, Equal, Arrow}
use Rattle.av_tree.specs.declared.written.TypeText.{TypeText, TypeText-F, out-TypeText}
use Rattle.av_tree.specs.declared.written.TypeText.TheOpen as types
use Rattle.av_tree.specs.declared.attribute.Attr.{Attr, Attr-F, out-Attr}
use Rattle.av_tree.specs.declared.attribute.Attr.TheOpen as attrs
use Rattle.av_tree.specs.declared.attribute.Named.{Named}
use Rattle.av_dialects.specs.declared.item.Item.{Item}
use Rattle.av_dialects.specs.declared.item.Item.TheVariants as item
use Rattle.av_dialects.specs.declared.item.Lead.{Lead}
use Rattle.av_dialects.specs.declared.item.Lead.TheVariants as lead
use Rattle.av_dialects.specs.declared.item.Slot.{Slot}
use Rattle.av_dialects.specs.declared.item.Slot.TheVariants as slot
use Rattle.av_dialects.specs.declared.item.Slots.{Slots}
use Rattle.av_dialects.specs.declared.item.Slots.TheVariants as slots
use Rattle.av_dialects.specs.Rows.{Part, predicates, property_of}
use Rattle.av_dialects.specs.Types.{needs, takes, takes_more}
use Rattle.av_printer.specs.Pieces.{Piece, space, token, sign, plain, comma, spaced, commas, behind, in_square}
use Rattle.av_printer.specs.Types.{type_pieces}
use Rattle.av_printer.specs.Expressions.{number, value, same, first_value, map_use, set_use, bound}
use Rattle.av_printer.specs.Operations.{Head, property, values_pieces, values_in_round, values_behind, constant_value, known_type, known_results, marks_behind, variable, step_of, step_behind, carried_behind, map_of, buffer}

-- ---- what stands before a part
abbrev pub lead_pieces : Lead → List Piece
lead_pieces lead.Nothing = []
lead_pieces lead.Blank = space
lead_pieces lead.Comma = comma
lead_pieces lead.Colon = spaced (sign Colon)
lead_pieces lead.Equal = spaced (sign Equal)
lead_pieces lead.To = spaced (plain (codes "to"))
lead_pieces lead.Step = spaced (plain (codes "step"))
lead_pieces lead.Into = spaced (plain (codes "into"))
lead_pieces lead.From = spaced (plain (codes "from"))

-- ---- operands and types
-- `%arg0[%0, %1]`: a buffer and its indices
unfoldable pub element : List (List ℕ) → List Piece
element [] = []
element (buffer ∷ indices) = value buffer ++ in_square (values_pieces indices)

-- the first type of several
unfoldable pub first_known : List (Option TypeText) → List Piece
first_known [] = []
first_known (ty ∷ types) = known_type ty

-- the types from a slot on
abbrev pub types_from : Head → Slot → List (Option TypeText)
types_from h (slot.Input at) = drop at h.in_types
types_from h (slot.LastInput at) = drop (length h.in_types - suc at) h.in_types
types_from h slot.Output = h.out_types

-- equal types are written once, as the first of them
abbrev pub first_slot : Slots → Slot
first_slot (slots.One a) = a
first_slot (slots.Two a b) = a
first_slot (slots.Three a b c) = a

-- the type of a condition and a comma, where it is a vector
abbrev pub is_vector : TypeText-F TypeText → Bool
is_vector (types.Vector dims elem) = true
is_vector other = false

unfoldable pub condition_type : Option TypeText → List Piece
condition_type None = []
condition_type (Some ty) = if is_vector (out-TypeText ty) then type_pieces ty ++ comma else []

unfoldable pub selected_types : List (Option TypeText) → List Piece
selected_types [] = []
selected_types (condition ∷ others) = condition_type condition ++ first_known others

-- ` -> i32`, or nothing where there is no result
unfoldable pub written_results : List (Option TypeText) → List Piece
written_results [] = []
written_results (first ∷ others) = spaced (sign Arrow) ++ known_results (first ∷ others)

-- a map or set, or the name of one, with its operands
abbrev pub applied_in : List (List ℕ) → Attr-F Attr Named → List Piece
applied_in operands (attrs.Map m) = map_use m operands
applied_in operands (attrs.Set s) = set_use s operands
applied_in operands (attrs.AliasUse name) = token kinds.HashId name ++ values_in_round operands
applied_in operands other = []

unfoldable pub applied : Option Attr → List (List ℕ) → List Piece
applied None operands = []
applied (Some a) operands = applied_in operands (out-Attr a)

-- ---- words of properties
unfoldable pub word_if_any : List ℕ → List Piece
word_if_any [] = []
word_if_any (c ∷ cs) = plain (c ∷ cs)

-- the word at the place of a number, or none
abbrev pub place_of : ℤ → Option ℕ
place_of (pos n) = Some n
place_of (negsuc n) = None

abbrev pub word_at : List (List ℕ) → Option ℕ → List ℕ
word_at words None = []
word_at words (Some place) = get_or words place []

abbrev pub predicate_at : ℤ → List ℕ
predicate_at z = word_at predicates (place_of z)

abbrev pub word_in : Attr-F Attr Named → List Piece
word_in (attrs.Number z ty) = word_if_any (predicate_at z)
word_in other = []

unfoldable pub word_of : Option Attr → List Piece
word_of None = []
word_of (Some a) = word_in (out-Attr a)

-- `<add>`: the words of a hash alone
abbrev pub angled : List (List ℕ) → List Piece
angled words = sign OpenAngle ++ commas (map plain words) ++ sign CloseAngle

abbrev pub angled_in : Attr-F Attr Named → List Piece
angled_in (attrs.Hash name words) = angled words
angled_in other = []

unfoldable pub angled_of : Option Attr → List Piece
angled_of None = []
angled_of (Some a) = angled_in (out-Attr a)

-- ` overflow<nsw>`, or nothing where there is no flag
unfoldable pub flags : List (List ℕ) → List Piece
flags [] = []
flags (first ∷ others) = space ++ plain (codes "overflow") ++ angled (first ∷ others)

abbrev pub flags_in : Attr-F Attr Named → List Piece
flags_in (attrs.Hash name words) = flags words
flags_in other = []

unfoldable pub flags_of : Option Attr → List Piece
flags_of None = []
flags_of (Some a) = flags_in (out-Attr a)

-- `[1, 0]`: the numbers of an array alone
abbrev pub numbers_in : Attr-F Attr Named → List Piece
numbers_in (attrs.Array elem numbers) = in_square (commas (map number numbers))
numbers_in other = []

unfoldable pub numbers : Option Attr → List Piece
numbers None = []
numbers (Some a) = numbers_in (out-Attr a)

-- ---- bounds of loops
-- how many operands a bound takes: one for each parameter of its map; for an alias a property counts them
abbrev pub size_in : ℕ → Attr-F Attr Named → ℕ
size_in counted (attrs.Map m) = length m.dims + length m.syms
size_in counted (attrs.AliasUse name) = counted
size_in counted other = 0

unfoldable pub size_of : ℕ → Option Attr → ℕ
size_of counted None = 0
size_of counted (Some a) = size_in counted (out-Attr a)

abbrev pub natural : ℤ → ℕ
natural (pos n) = n
natural (negsuc n) = 0

-- the number at a place of an array, or 0
abbrev pub counted_in : ℕ → Attr-F Attr Named → ℕ
counted_in place (attrs.Array elem numbers) = natural (get_or numbers place (pos 0))
counted_in place other = 0

unfoldable pub counted : ℕ → Option Attr → ℕ
counted place None = 0
counted place (Some a) = counted_in place (out-Attr a)

abbrev pub bound_name : Bool → List ℕ
bound_name true = codes "lowerBoundMap"
bound_name false = codes "upperBoundMap"

abbrev pub bound_place : Bool → ℕ
bound_place true = 0
bound_place false = 1

abbrev pub bound_size : Head → Bool → ℕ
bound_size h lower =
    size_of (counted (bound_place lower) (property h.properties (codes "operandSegmentSizes"))) (property h.properties (bound_name lower))

-- `max #map(%0)`: an alias may have several results
abbrev pub alias_bound : Bool → List ℕ → List (List ℕ) → List Piece
alias_bound lower name operands =
    plain (if lower then codes "max" else codes "min") ++ space ++ token kinds.HashId name ++ values_in_round operands

abbrev pub bound_in : Bool → List (List ℕ) → Attr-F Attr Named → List Piece
bound_in lower operands (attrs.Map m) = bound lower m operands
bound_in lower operands (attrs.AliasUse name) = alias_bound lower name operands
bound_in lower operands other = []

unfoldable pub bound_of : Bool → Option Attr → List (List ℕ) → List Piece
bound_of lower None operands = []
bound_of lower (Some a) operands = bound_in lower operands (out-Attr a)

-- ---- parts
-- how many of so many operands that are left an item takes, where the parts behind it need so many
abbrev pub share : Head → Item → ℕ → ℕ → ℕ
share h item.LowerBound left needed = bound_size h true
share h item.UpperBound left needed = bound_size h false
share h i left needed = if takes_more i then left - needed else takes i

-- an item, with the operands that it takes
abbrev pub item_pieces : Head → Item → List (List ℕ) → List Piece
item_pieces h item.ByHand operands = []
item_pieces h (item.Operand typing) operands = first_value operands
item_pieces h item.OptionalOperand operands = behind (map value operands)
item_pieces h item.Operands operands = values_pieces operands
item_pieces h item.TypedOperands operands = values_behind operands h.in_types
item_pieces h item.Element operands = element operands
item_pieces h (item.Type wanted s) operands = first_known (types_from h (first_slot s))
item_pieces h item.ChoiceTypes operands = selected_types h.in_types
item_pieces h (item.Word key) operands = word_of (property h.properties (property_of key))
item_pieces h (item.Angled key) operands = angled_of (property h.properties (property_of key))
item_pieces h (item.Numbers key) operands = numbers (property h.properties (property_of key))
item_pieces h item.Overflow operands = flags_of (property h.properties (codes "overflowFlags"))
item_pieces h item.Marks operands = marks_behind h.attrs
item_pieces h item.Constant operands = constant_value (property h.properties (codes "value"))
item_pieces h item.Map operands = applied (property h.properties (codes "map")) operands
item_pieces h item.Set operands = applied (property h.properties (codes "condition")) operands
item_pieces h item.Access operands = buffer (map_of (property h.properties (codes "map"))) operands
item_pieces h item.Counter operands = variable h.arguments
item_pieces h item.LowerBound operands = bound_of true (property h.properties (bound_name true)) operands
item_pieces h item.UpperBound operands = bound_of false (property h.properties (bound_name false)) operands
item_pieces h item.Step operands = step_behind (step_of (property h.properties (codes "step")))
item_pieces h item.Carried operands = carried_behind h.arguments operands h.out_types
item_pieces h item.ResultTypes operands = written_results h.out_types
item_pieces h item.Region operands = []
item_pieces h item.Else operands = []

-- a part, and what stands before it
unfoldable pub part_pieces : Head → Part → List (List ℕ) → List Piece
part_pieces h part operands = lead_pieces part.0 ++ item_pieces h part.1 operands

-- several parts with the operands that are left to them
unfoldable pub parts_pieces : Head → List Part → List (List ℕ) → List Piece
parts_pieces h [] left = []
parts_pieces h (part ∷ parts) left =
    let taken : ℕ = share h part.1 (length left) (needs parts) in
    part_pieces h part (take taken left) ++ parts_pieces h parts (drop taken left)

-- ---- regions
abbrev pub is_region : Item → Bool
is_region item.Region = true
is_region item.Else = true
is_region other = false

-- the parts before the regions
unfoldable pub before_regions : List Part → List Part
before_regions [] = []
before_regions (part ∷ parts) = if is_region part.1 then [] else part ∷ before_regions parts

-- the parts behind the regions, of which some were seen or none yet
unfoldable pub behind_seen : Bool → List Part → List Part
behind_seen seen [] = []
behind_seen seen (part ∷ parts) = if is_region part.1 then behind_seen true parts else (if seen then part ∷ parts else behind_seen false parts)

abbrev pub behind_regions : List Part → List Part
behind_regions parts = behind_seen false parts

-- ---- whole forms
-- the word that begins a form: the operation's name but for the return of a function
unfoldable pub first_word : List ℕ → List ℕ
first_word name = if same name (codes "func.return") then codes "return" else name

-- the word, and the parts before the regions
unfoldable pub form_line : List Part → Head → List Piece
form_line parts h = plain (first_word h.name) ++ parts_pieces h (before_regions parts) h.operands

-- the parts behind the regions, to which no operand is left
unfoldable pub form_end : List Part → Head → List Piece
form_end parts h = parts_pieces h (behind_regions parts) []
