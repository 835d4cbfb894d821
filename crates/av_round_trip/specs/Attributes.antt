-- Attributes and dictionaries that are printed and read again as themselves.
use Rattle.std.specs.Prelude.{ℕ, ℤ, ◌≡◌, Bool, List, [], ◌∷◌, reverse, codes}
use Rattle.std.specs.List.{All}
use Rattle.av_lex.specs.declared.token.Kind.TheVariants as kinds
use Rattle.av_tree.specs.declared.class.Class.TheVariants as class
use Rattle.av_tree.specs.declared.table.Symbol.TheVariants as symbol
use Rattle.av_tree.specs.declared.table.Name.TheVariants as name
use Rattle.av_tree.specs.declared.table.attributes.AttributeName.TheVariants as attributes_name
use Rattle.av_tree.specs.declared.written.TypeText.{TypeText, Func}
use Rattle.av_tree.specs.declared.written.MapText.{MapText}
use Rattle.av_tree.specs.declared.written.SetText.{SetText}
use Rattle.av_tree.specs.declared.attribute.Element.{Element}
use Rattle.av_tree.specs.declared.attribute.Element as elements
use Rattle.av_tree.specs.declared.attribute.Attr.{Attr}
use Rattle.av_tree.specs.declared.attribute.Attr as attrs
use Rattle.av_tree.specs.declared.attribute.Named.{Named, out-Named}
use Rattle.av_printer.specs.Attributes.{attribute}
use Rattle.av_printer.specs.Dictionaries.{dictionary, in_order}
use Rattle.av_values.specs.declared.value.Value.TheVariants as value
use Rattle.av_print_laws.specs.ReadExpressions.{IsShortInteger}
use Rattle.av_read_laws.specs.Making.{class_of_word}
use Rattle.av_round_trip.specs.Giving.{Gives}
use Rattle.av_round_trip.specs.Types.{IsType}
use Rattle.av_round_trip.specs.Expressions.{IsMap, IsSet}

mutual
  -- the numbers in an element have at most 38 digits
  pub data IsElement : Element → Type 0 where
    number_element : (z : ℤ) → IsShortInteger z → IsElement (elements.Number z)
    truth_element : (b : Bool) → IsElement (elements.Bool b)
    list_element : (items : List Element) → AreElements items → IsElement (elements.List items)

  pub data AreElements : List Element → Type 0 where
    no_elements : AreElements []
    one_element_more : (e : Element) (es : List Element) → IsElement e → AreElements es → AreElements (e ∷ es)

mutual
  -- an attribute that stands as a value; a unit is none, and a function type stands only behind the name `function_type`
  pub data IsAttribute (most : ℕ) : Attr → Type 0 where
    number : (z : ℤ) (ty : TypeText) → IsShortInteger z → IsType ty → IsAttribute most (attrs.Number z ty)
    truth : (b : Bool) → IsAttribute most (attrs.Bool b)
    quoted : (text : List ℕ) → IsAttribute most (attrs.Quoted text)
    symbol_name : (text : List ℕ) → IsAttribute most (attrs.Symbol text)
    typed : (ty : TypeText) → IsType ty → IsAttribute most (attrs.Type ty)
    mapped : (m : MapText) → IsMap most m → IsAttribute most (attrs.Map m)
    bounded : (s : SetText) → IsSet most s → IsAttribute most (attrs.Set s)
    alias : (text : List ℕ) → IsAttribute most (attrs.AliasUse text)
    -- words in `<` and `>` follow a `#` and a word alone
    hashed : (text : List ℕ) (words : List (List ℕ)) → class_of_word (kinds.HashId, text) ≡ class.HashWord → IsAttribute most (attrs.Hash text words)
    list : (items : List Attr) → AreAttributes most items → IsAttribute most (attrs.List items)
    -- the entries of an inner dictionary are written as they stand
    inner_dictionary : (entries : List Named) → AreEntries most entries → IsAttribute most (attrs.Dictionary entries)
    array : (elem : TypeText) (numbers : List ℤ) → IsType elem → All IsShortInteger numbers → IsAttribute most (attrs.Array elem numbers)
    dense : (e : Element) (ty : TypeText) → IsElement e → IsType ty → IsAttribute most (attrs.Dense e ty)

  pub data AreAttributes (most : ℕ) : List Attr → Type 0 where
    no_attributes : AreAttributes most []
    one_attribute_more : (a : Attr) (rest : List Attr) → IsAttribute most a → AreAttributes most rest → AreAttributes most (a ∷ rest)

  -- what stands behind the name of an entry
  pub data IsEntryValue (most : ℕ) : List ℕ → Attr → Type 0 where
    unit : (name : List ℕ) → IsEntryValue most name attrs.Unit
    plain : (name : List ℕ) (a : Attr) → IsAttribute most a → IsEntryValue most name a
    function_type : (inputs results : List TypeText) → All IsType inputs → All IsType results
        → IsEntryValue most (codes "function_type") (attrs.Type (Func inputs results))

  pub data AreEntries (most : ℕ) : List Named → Type 0 where
    no_entries : AreEntries most []
    one_entry_more : (n : Named) (rest : List Named) → IsEntryValue most (out-Named n).name (out-Named n).value
        → AreEntries most rest → AreEntries most (n ∷ rest)

abbrev pub AttributesLaw : Type 0
AttributesLaw = (most : ℕ) (a : Attr) → IsAttribute most a
    → Gives most (symbol.Rows (name.Attribute attributes_name.Attribute) ∷ []) (attribute a) (value.Attr a ∷ [])

-- the entries are read in order of name, as they are written
abbrev pub DictionariesLaw : Type 0
DictionariesLaw = (most : ℕ) (entries : List Named) → AreEntries most entries
    → Gives most (symbol.Rows (name.Attribute attributes_name.Entries) ∷ []) (dictionary entries) (value.Entries (reverse (in_order entries)) ∷ [])
