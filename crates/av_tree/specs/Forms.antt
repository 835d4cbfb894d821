-- The forms of operations as symbols of the format: those of a part, and of its parts one behind another.
use Rattle.std.specs.Prelude.{ℕ, Bool, true, false, List, [], ◌∷◌, ◌++◌, if◌then◌else◌}
use Rattle.av_lex.specs.declared.token.Sign.TheVariants as sign
use Rattle.av_tree.specs.declared.class.Keyword.TheVariants as word
use Rattle.av_tree.specs.declared.table.Symbol.{Symbol}
use Rattle.av_tree.specs.declared.table.Symbol.TheVariants as symbol
use Rattle.av_tree.specs.declared.table.Name.TheVariants as name
use Rattle.av_tree.specs.declared.table.Test.TheVariants as test
use Rattle.av_tree.specs.declared.table.affine.AffineName.TheVariants as affine_name
use Rattle.av_tree.specs.declared.table.arith.ArithName.TheVariants as arith_name
use Rattle.av_tree.specs.declared.table.attributes.AttributeName.TheVariants as attributes_name
use Rattle.av_tree.specs.declared.table.regions.RegionName.TheVariants as regions_name
use Rattle.av_tree.specs.declared.table.subscripts.SubscriptName.TheVariants as subscripts_name
use Rattle.av_tree.specs.declared.table.types.TypeName.TheVariants as types_name
use Rattle.av_tree.specs.declared.table.values.ValueName.TheVariants as values_name
use Rattle.av_dialects.specs.declared.item.Item.{Item}
use Rattle.av_dialects.specs.declared.item.Item.TheVariants as item
use Rattle.av_dialects.specs.declared.item.Key.{Key}
use Rattle.av_dialects.specs.declared.item.Key.TheVariants as key
use Rattle.av_dialects.specs.declared.item.Lead.{Lead}
use Rattle.av_dialects.specs.declared.item.Lead.TheVariants as lead
use Rattle.av_dialects.specs.declared.item.Wanted.{Wanted}
use Rattle.av_dialects.specs.declared.item.Wanted.TheVariants as wanted
use Rattle.av_dialects.specs.Rows.{Part}

-- ---- symbols of a form
abbrev pub lead_symbols : Lead → List Symbol
lead_symbols lead.Nothing = []
lead_symbols lead.Blank = []
lead_symbols lead.Comma = symbol.Sign sign.Comma ∷ []
lead_symbols lead.Colon = symbol.Sign sign.Colon ∷ []
lead_symbols lead.Equal = symbol.Sign sign.Equal ∷ []
lead_symbols lead.To = symbol.Word word.To ∷ []
lead_symbols lead.Step = symbol.Word word.Step ∷ []
lead_symbols lead.Into = symbol.Word word.Into ∷ []
lead_symbols lead.From = symbol.Word word.From ∷ []

abbrev pub type_symbols : Wanted → List Symbol
type_symbols wanted.Any = symbol.Rows (name.Type types_name.Type) ∷ []
type_symbols wanted.Buffer = symbol.Rows (name.Type types_name.MemRef) ∷ []
type_symbols wanted.Vector = symbol.Rows (name.Type types_name.Vector) ∷ []

abbrev pub word_symbols : Key → List Symbol
word_symbols key.Predicate = symbol.Token test.Predicate ∷ []
word_symbols key.Kind = symbol.Token test.Kind ∷ []
word_symbols _ = []

abbrev pub angled_symbols : Key → List Symbol
angled_symbols k = symbol.Sign sign.OpenAngle ∷ (word_symbols k ++ symbol.Sign sign.CloseAngle ∷ [])

abbrev pub a_value : Symbol
a_value = symbol.Rows (name.Value values_name.Value)

abbrev pub in_square : Symbol → List Symbol
in_square s = symbol.Sign sign.OpenSquare ∷ s ∷ symbol.Sign sign.CloseSquare ∷ []

-- a form by hand has none, and values with their types are told from what follows in another way
abbrev pub item_symbols : Item → List Symbol
item_symbols item.ByHand = []
item_symbols (item.Operand _) = a_value ∷ []
item_symbols item.OptionalOperand = symbol.Rows (name.Value values_name.OptionalValue) ∷ []
item_symbols item.Operands = a_value ∷ symbol.Rows (name.Value values_name.MoreValues) ∷ []
item_symbols item.TypedOperands = symbol.Rows (name.Region regions_name.TypedValues) ∷ []
item_symbols item.Element = a_value ∷ in_square (symbol.Rows (name.Value values_name.Values))
item_symbols (item.Type w _) = type_symbols w
item_symbols item.ChoiceTypes = symbol.Rows (name.Arith arith_name.SelectedTypes) ∷ []
item_symbols (item.Word k) = word_symbols k
item_symbols (item.Angled k) = angled_symbols k
item_symbols (item.Numbers _) = in_square (symbol.Rows (name.Value values_name.Integers))
item_symbols item.Overflow = symbol.Rows (name.Arith arith_name.OptionalOverflow) ∷ []
item_symbols item.Marks = symbol.Rows (name.Attribute attributes_name.OptionalDictionary) ∷ []
item_symbols item.Constant = symbol.Rows (name.Arith arith_name.Constant) ∷ []
item_symbols item.Map = symbol.Rows (name.Affine affine_name.MapUse) ∷ []
item_symbols item.Set = symbol.Rows (name.Affine affine_name.SetUse) ∷ []
item_symbols item.Access = a_value ∷ in_square (symbol.Rows (name.Subscript subscripts_name.Subscripts))
item_symbols item.Counter = symbol.Token test.ValId ∷ []
item_symbols item.LowerBound = symbol.Rows (name.Affine affine_name.LowerBound) ∷ []
item_symbols item.UpperBound = symbol.Rows (name.Affine affine_name.UpperBound) ∷ []
item_symbols item.Step = symbol.Rows (name.Affine affine_name.OptionalStep) ∷ []
item_symbols item.Carried = symbol.Rows (name.Affine affine_name.OptionalIterArgs) ∷ []
item_symbols item.ResultTypes = symbol.Rows (name.Type types_name.OptionalResultTypes) ∷ []
item_symbols item.Region = symbol.Rows (name.Region regions_name.Region) ∷ []
item_symbols item.Else = symbol.Rows (name.Affine affine_name.OptionalElse) ∷ []

abbrev pub form_symbols : List Part → List Symbol
form_symbols [] = []
form_symbols (p ∷ ps) = lead_symbols p.0 ++ (item_symbols p.1 ++ form_symbols ps)

-- the form isn't made of parts
abbrev pub is_by_hand : List Part → Bool
is_by_hand ((_, item.ByHand) ∷ ps) = true
is_by_hand _ = false

-- ---- brackets
-- each text of the item has a bracket
abbrev pub needs_bracket : Item → Bool
needs_bracket item.Element = true
needs_bracket item.Access = true
needs_bracket (item.Numbers _) = true
needs_bracket (item.Angled _) = true
needs_bracket item.Map = true
needs_bracket item.Set = true
needs_bracket item.Region = true
needs_bracket (item.Type wanted.Buffer _) = true
needs_bracket (item.Type wanted.Vector _) = true
needs_bracket _ = false

-- the least number of brackets that are open at once in a text of the parts
abbrev pub need_of_form : List Part → ℕ
need_of_form [] = 0
need_of_form (p ∷ ps) = if needs_bracket p.1 then 1 else need_of_form ps
