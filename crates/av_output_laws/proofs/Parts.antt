-- The values that rows make of the parts of lines, where other symbols stand behind them.
use Rattle.std.proofs.Common.{◌≡◌, ℕ, suc, ◌^◌, ◌<◌, Bool, true, false, List, [], ◌∷◌, ◌++◌, append-nil, refl, ap, arith}
use Rattle.std.specs.Prelude.{ℤ, pos, negsuc, unsigned_abs, IsTrue, if◌then◌else◌, Some, None, codes, decimal, ◌==◌}
use Rattle.std.specs.List.{list_all}
use Rattle.av_lex.specs.declared.token.Kind.TheVariants as kinds
use Rattle.av_lex.specs.declared.token.Sign.{Sign}
use Rattle.av_lex.specs.declared.token.Sign.TheVariants as sign
use Rattle.av_lex.specs.Spellings.{sign_text}
use Rattle.av_bits.specs.declared.types.Width.TheVariants.{W1, W8, W16, W32, W64}
use Rattle.av_ir.specs.declared.ty.Elem.{Elem}
use Rattle.av_ir.specs.declared.ty.Elem.TheVariants.{Int, Index}
use Rattle.av_tree.specs.declared.class.Class.TheVariants as class
use Rattle.av_tree.specs.declared.written.SizeText.TheVariants as size
use Rattle.av_tree.specs.declared.written.TypeText.{TypeText}
use Rattle.av_tree.specs.declared.written.TypeText.TheVariants as ty
use Rattle.av_tree.specs.declared.table.Symbol.{Symbol}
use Rattle.av_tree.specs.declared.table.Symbol.TheVariants as symbol
use Rattle.av_tree.specs.declared.table.Test.TheVariants as test
use Rattle.av_tree.specs.declared.table.Name.TheVariants as name
use Rattle.av_tree.specs.declared.table.Rule.TheVariants as rule
use Rattle.av_tree.specs.declared.table.values.ValueName.TheVariants as values_name
use Rattle.av_tree.specs.declared.table.values.ValueRule.TheVariants as values_rule
use Rattle.av_tree.specs.declared.table.types.TypeName.TheVariants as types_name
use Rattle.av_tree.specs.declared.table.types.TypeRule.TheVariants as types_rule
use Rattle.av_tree.specs.declared.table.attributes.AttributeName.TheVariants as attributes_name
use Rattle.av_tree.specs.declared.table.attributes.AttributeRule.TheVariants as attributes_rule
use Rattle.av_derive.specs.ClassOf.{keywords}
use Rattle.av_values.specs.Sorts.{on_top, replaced}
use Rattle.av_values.specs.declared.value.Value.{Value}
use Rattle.av_values.specs.declared.value.Value.TheVariants as value
use Rattle.av_totree.specs.Types.{elem_name}
use Rattle.av_program_laws.specs.WrittenTrees.{mark}
use Rattle.av_read_laws.specs.Making.{Word, class_of_word, Makes, nothing, by_sign, by_word, by_token, by_row}
use Rattle.av_round_trip.proofs.Decimals.{integer-positive, integer-negative, size-decimal}
use Rattle.av_tree.specs.Classes.{fits_of}

abbrev pub sign_word : Sign → Word
sign_word s = (kinds.Sign s, sign_text s)

-- ---- numbers
abbrev pub number_words : ℤ → List Word
number_words (pos n) = (kinds.Number, decimal n) ∷ []
number_words (negsuc n) = sign_word sign.Minus ∷ (kinds.Number, decimal (suc n)) ∷ []

either_number : (b : Bool) → IsTrue (fits_of test.Number (if b then class.Zero else class.Positive))
either_number true = refl
either_number false = refl

pub number_fits : (digits : List ℕ) → IsTrue (fits_of test.Number (class_of_word (kinds.Number, digits)))
number_fits digits = either_number (list_all (λ digit. digit == 48) digits)

-- ---- types and marks
abbrev pub buffer_words : ℕ → List Word
buffer_words n =
    (kinds.Word, codes "memref") ∷ sign_word sign.OpenAngle ∷ (kinds.DimX, decimal n ++ codes "x") ∷ (kinds.Word, codes "i32")
    ∷ sign_word sign.CloseAngle ∷ []

abbrev pub buffer_type : ℕ → TypeText
buffer_type n = ty.MemRef (size.Fixed n ∷ []) (codes "i32") None

abbrev pub mark_words : List ℕ → ℕ → List Word
mark_words text number =
    sign_word sign.OpenCurly ∷ (kinds.Word, text) ∷ sign_word sign.Equal ∷ (kinds.Number, decimal number) ∷ sign_word sign.Colon
    ∷ (kinds.Word, codes "i64") ∷ sign_word sign.CloseCurly ∷ []

module _ {most : ℕ} {ss : List Symbol} {ws : List Word} {vs : List Value} where
  pub made_integer : (z : ℤ) → unsigned_abs z < 2 ^ 127 → Makes most ss ws vs
      → Makes most (symbol.Rows (name.Value values_name.Integer) ∷ ss) (number_words z ++ ws) (value.Number z ∷ vs)
  unfolding replaced on_top
  made_integer (pos n) h rest =
      by_row {ws = (kinds.Number, decimal n) ∷ []} (rule.Value values_rule.PlainInteger) refl tt (by_token (number_fits (decimal n)) nothing)
      (ap (λ z. Some (value.Number z ∷ [])) (integer-positive n h)) rest
  made_integer (negsuc n) h rest =
      by_row {ws = sign_word sign.Minus ∷ (kinds.Number, decimal (suc n)) ∷ []} (rule.Value values_rule.NegativeInteger) refl tt
      (by_sign refl (by_token (number_fits (decimal (suc n))) nothing))
      (ap (λ z. Some (value.Number z ∷ [])) (integer-negative n h)) rest

  -- ---- values
  pub made_value : (text : List ℕ) → Makes most ss ws vs
      → Makes most (symbol.Rows (name.Value values_name.Value) ∷ ss) ((kinds.ValId, text) ∷ ws) (value.Text text ∷ vs)
  unfolding replaced on_top
  made_value text rest =
      by_row {ws = (kinds.ValId, text) ∷ []} (rule.Value values_rule.NamedValue) refl tt
      (by_token refl (by_row {ws = []} (rule.Value values_rule.NoResultNumber) refl tt nothing refl nothing))
      (ap (λ t. Some (value.Text t ∷ [])) (append-nil text)) rest

  -- ---- types
  pub made_scalar : (text : List ℕ) → class_of_word (kinds.Word, text) ≡ class.Scalar → Makes most ss ws vs
      → Makes most (symbol.Rows (name.Type types_name.Type) ∷ ss) ((kinds.Word, text) ∷ ws) (value.Type (ty.Scalar text) ∷ vs)
  unfolding replaced on_top
  made_scalar text is rest =
      by_row {ws = (kinds.Word, text) ∷ []} (rule.Type types_rule.ScalarType) refl tt
      (by_token (ap (λ c. fits_of test.Scalar c) is) nothing) refl rest

  pub made_buffer : (n : ℕ) → n < 2 ^ 127 → Makes most ss ws vs
      → Makes most (symbol.Rows (name.Type types_name.MemRef) ∷ ss) (buffer_words n ++ ws) (value.Type (buffer_type n) ∷ vs)
  unfolding replaced on_top keywords
  made_buffer n h rest =
      by_row {ws = buffer_words n} (rule.Type types_rule.MemRefType) refl tt
      (by_word refl (by_sign refl
      (by_row {ws = (kinds.DimX, decimal n ++ codes "x") ∷ []} (rule.Type types_rule.NextSize) refl tt
      (by_token refl (by_row {ws = []} (rule.Type types_rule.NoMoreSizes) refl tt nothing refl nothing)) refl
      (by_token refl (by_row {ws = []} (rule.Type types_rule.NoLayout) refl tt nothing refl (by_sign refl nothing))))))
      (ap (λ s. Some (value.Type (ty.MemRef (s ∷ []) (codes "i32") None) ∷ [])) (size-decimal n h)) rest

-- ---- marks
module _ {most : ℕ} {ss : List Symbol} {ws : List Word} {vs : List Value} where
  pub made_mark : (text : List ℕ) (number : ℕ) → class_of_word (kinds.Word, text) ≡ class.OtherWord → number < 2 ^ 64 → Makes most ss ws vs
      → Makes most (symbol.Rows (name.Attribute attributes_name.OptionalDictionary) ∷ ss) (mark_words text number ++ ws) (value.Entries (mark text number) ∷ vs)
  unfolding replaced on_top keywords
  made_mark text number is h rest =
      let type_part : List Word = sign_word sign.Colon ∷ (kinds.Word, codes "i64") ∷ [] in
      let number_part : List Word = (kinds.Number, decimal number) ∷ type_part in
      let value_words : List Word = sign_word sign.Equal ∷ number_part in
      let entry_words : List Word = (kinds.Word, text) ∷ value_words in
      by_row {ws = mark_words text number} (rule.Attribute attributes_rule.DictionaryHere) refl tt
      (by_row {ws = mark_words text number} (rule.Attribute attributes_rule.WrittenDictionary) refl tt
      (by_sign refl
      (by_row {ws = entry_words} (rule.Attribute attributes_rule.FirstEntry) refl tt
      (by_row {ws = entry_words} (rule.Attribute attributes_rule.PlainEntry) refl tt
      (by_token (ap (λ c. fits_of test.EntryName c) is)
      (by_row {ws = value_words} (rule.Attribute attributes_rule.WrittenEntry) refl tt
      (by_sign refl
      (by_row {ws = number_part} (rule.Attribute attributes_rule.NumberAttribute) refl tt
      (made_integer (pos number) (omega arith)
      (by_row {ws = type_part} (rule.Attribute attributes_rule.WrittenNumberType) refl tt
      (by_sign refl (made_scalar (codes "i64") refl nothing)) refl nothing))
      refl nothing))
      refl nothing))
      refl (by_row {ws = []} (rule.Attribute attributes_rule.NoMoreEntries) refl tt nothing refl nothing))
      refl (by_sign refl nothing)))
      refl nothing)
      refl rest

pub class-elem : (elem : Elem) → class_of_word (kinds.Word, elem_name elem) ≡ class.Scalar
unfolding keywords
class-elem Index = refl
class-elem (Int W1) = refl
class-elem (Int W8) = refl
class-elem (Int W16) = refl
class-elem (Int W32) = refl
class-elem (Int W64) = refl
