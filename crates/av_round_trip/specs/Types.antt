-- Values, numbers and types that are printed and read again as themselves.
use Rattle.std.specs.Prelude.{ℕ, ℤ, ◌≡◌, List, [], ◌∷◌, map, reverse, Option}
use Rattle.std.specs.List.{All}
use Rattle.av_lex.specs.declared.token.Kind.TheVariants as kinds
use Rattle.av_tree.specs.declared.class.Class.TheVariants as class
use Rattle.av_tree.specs.declared.table.Symbol.{Symbol}
use Rattle.av_tree.specs.declared.table.Symbol.TheVariants as symbol
use Rattle.av_tree.specs.declared.table.Name.TheVariants as name
use Rattle.av_tree.specs.declared.table.types.TypeName.TheVariants as types_name
use Rattle.av_tree.specs.declared.table.values.ValueName.TheVariants as values_name
use Rattle.av_tree.specs.declared.written.SizeText.{SizeText}
use Rattle.av_tree.specs.declared.written.DimText.{DimText}
use Rattle.av_tree.specs.declared.written.LayoutText.{LayoutText}
use Rattle.av_tree.specs.declared.written.TypeText.{TypeText, Scalar, MemRef, Vector}
use Rattle.av_printer.specs.Pieces.{commas}
use Rattle.av_printer.specs.Expressions.{from, value as value_pieces, number}
use Rattle.av_printer.specs.Types.{type_pieces, one_or_several}
use Rattle.av_values.specs.declared.value.Value.TheVariants as value
use Rattle.av_print_laws.specs.ReadTypes.{IsShortSize, IsShortDim, IsShortLayout}
use Rattle.av_print_laws.specs.ReadExpressions.{IsShortInteger}
use Rattle.av_read_laws.specs.Making.{class_of_word}
use Rattle.av_round_trip.specs.Giving.{Gives}

-- ---- values
-- nothing, or `#` and digits
abbrev pub IsResultNumber : List ℕ → Type 0
IsResultNumber [] = Unit {0}
IsResultNumber (c ∷ cs) = class_of_word (kinds.HashId, c ∷ cs) ≡ class.HashDigits

-- the name of a value, as `%a` or `%r#0`
abbrev pub IsNameOfValue : List ℕ → Type 0
IsNameOfValue text = IsResultNumber (from 35 text)

abbrev pub a_value : Symbol
a_value = symbol.Rows (name.Value values_name.Value)

abbrev pub ValuesLaw : Type 0
ValuesLaw = (most : ℕ) (text : List ℕ) → IsNameOfValue text → Gives most (a_value ∷ []) (value_pieces text) (value.Text text ∷ [])

-- lists are made from the last item to the first
abbrev pub ManyValuesLaw : Type 0
ManyValuesLaw = (most : ℕ) (texts : List (List ℕ)) → All IsNameOfValue texts
    → Gives most (symbol.Rows (name.Value values_name.Values) ∷ []) (commas (map value_pieces texts)) (value.Texts (reverse texts) ∷ [])

-- ---- numbers
abbrev pub IntegersLaw : Type 0
IntegersLaw = (most : ℕ) (z : ℤ) → IsShortInteger z → Gives most (symbol.Rows (name.Value values_name.Integer) ∷ []) (number z) (value.Number z ∷ [])

-- ---- types
-- the word names a scalar type, as `index` or `i32`
abbrev pub IsScalar : List ℕ → Type 0
IsScalar word = class_of_word (kinds.Word, word) ≡ class.Scalar

-- a type of values
pub data IsType : TypeText → Type 0 where
  scalar : (word : List ℕ) → IsScalar word → IsType (Scalar word)
  mem_ref : (sizes : List SizeText) (elem : List ℕ) (at : Option LayoutText)
      → All IsShortSize sizes → IsScalar elem → IsShortLayout at → IsType (MemRef sizes elem at)
  vector : (dims : List DimText) (elem : List ℕ) → All IsShortDim dims → IsScalar elem → IsType (Vector dims elem)

abbrev pub a_type : Symbol
a_type = symbol.Rows (name.Type types_name.Type)

abbrev pub TypesLaw : Type 0
TypesLaw = (most : ℕ) (t : TypeText) → IsType t → Gives most (a_type ∷ []) (type_pieces t) (value.Type t ∷ [])

abbrev pub ManyTypesLaw : Type 0
ManyTypesLaw = (most : ℕ) (ts : List TypeText) → All IsType ts
    → Gives most (symbol.Rows (name.Type types_name.Types) ∷ []) (commas (map type_pieces ts)) (value.Types (reverse ts) ∷ [])

-- the types of results
abbrev pub ResultTypesLaw : Type 0
ResultTypesLaw = (most : ℕ) (ts : List TypeText) → All IsType ts
    → Gives most (symbol.Rows (name.Type types_name.ResultTypes) ∷ []) (one_or_several (map type_pieces ts)) (value.Types (reverse ts) ∷ [])
