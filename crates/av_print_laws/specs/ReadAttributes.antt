-- What holds of attributes that were read.
use Rattle.std.specs.Prelude.{ℕ, ℤ, Bool, List, [], ◌∷◌, ◌++◌, codes}
use Rattle.std.specs.List.{All}
use Rattle.av_lex.specs.declared.token.Kind.TheVariants as kinds
use Rattle.av_tree.specs.declared.written.TypeText.{TypeText}
use Rattle.av_tree.specs.declared.written.MapText.{MapText}
use Rattle.av_tree.specs.declared.written.SetText.{SetText}
use Rattle.av_tree.specs.declared.attribute.Element.{Element}
use Rattle.av_tree.specs.declared.attribute.Element as elements
use Rattle.av_tree.specs.declared.attribute.Attr.{Attr}
use Rattle.av_tree.specs.declared.attribute.Attr as attrs
use Rattle.av_tree.specs.declared.attribute.Named.{Named, out-Named}
use Rattle.av_print_laws.specs.Spacing.{IsWord}
use Rattle.av_print_laws.specs.ReadTypes.{IsReadType}
use Rattle.av_print_laws.specs.ReadExpressions.{IsShortInteger, IsReadMap, IsReadSet}

mutual
  -- the numbers in an element have at most 38 digits
  pub data IsReadElement : Element → Type 0 where
    number_element : (z : ℤ) → IsShortInteger z → IsReadElement (elements.Number z)
    truth_element : (b : Bool) → IsReadElement (elements.Bool b)
    list_element : (items : List Element) → AreReadElements items → IsReadElement (elements.List items)

  -- of several
  pub data AreReadElements : List Element → Type 0 where
    no_elements : AreReadElements []
    one_element_more : (e : Element) (es : List Element) → IsReadElement e → AreReadElements es → AreReadElements (e ∷ es)

mutual
  -- the names and texts in an attribute are tokens of their kinds, its numbers have at most 38 digits, and so on for its parts
  pub data IsReadAttr : Attr → Type 0 where
    number : (z : ℤ) (ty : TypeText) → IsShortInteger z → IsReadType ty → IsReadAttr (attrs.Number z ty)
    truth : (b : Bool) → IsReadAttr (attrs.Bool b)
    quoted : (text : List ℕ) → IsWord kinds.Quoted (codes "\"" ++ text ++ codes "\"") → IsReadAttr (attrs.Quoted text)
    symbol : (text : List ℕ) → IsWord kinds.SymId text → IsReadAttr (attrs.Symbol text)
    typed : (ty : TypeText) → IsReadType ty → IsReadAttr (attrs.Type ty)
    mapped : (m : MapText) → IsReadMap m → IsReadAttr (attrs.Map m)
    bounded : (s : SetText) → IsReadSet s → IsReadAttr (attrs.Set s)
    alias : (text : List ℕ) → IsWord kinds.HashId text → IsReadAttr (attrs.AliasUse text)
    hashed : (text : List ℕ) (words : List (List ℕ)) → IsWord kinds.HashId text → All (IsWord kinds.Word) words → IsReadAttr (attrs.Hash text words)
    list : (items : List Attr) → AreReadAttrs items → IsReadAttr (attrs.List items)
    dictionary : (entries : List Named) → AreReadEntries entries → IsReadAttr (attrs.Dictionary entries)
    array : (elem : TypeText) (numbers : List ℤ) → IsReadType elem → All IsShortInteger numbers → IsReadAttr (attrs.Array elem numbers)
    dense : (e : Element) (ty : TypeText) → IsReadElement e → IsReadType ty → IsReadAttr (attrs.Dense e ty)
    lone : IsReadAttr attrs.Unit

  -- of several
  pub data AreReadAttrs : List Attr → Type 0 where
    no_attrs : AreReadAttrs []
    one_attr_more : (a : Attr) (rest : List Attr) → IsReadAttr a → AreReadAttrs rest → AreReadAttrs (a ∷ rest)

  -- of entries, whose names are words
  pub data AreReadEntries : List Named → Type 0 where
    no_entries : AreReadEntries []
    one_entry_more : (n : Named) (rest : List Named) → IsWord kinds.Word (out-Named n).name → IsReadAttr (out-Named n).value
        → AreReadEntries rest → AreReadEntries (n ∷ rest)
