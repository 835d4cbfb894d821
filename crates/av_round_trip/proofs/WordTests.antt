-- The tests that words fit, and names behind `#`, by their texts.
use Rattle.std.proofs.Common.{◌≡◌, ℕ, Bool, true, false, List, [], ◌∷◌, refl, sym, ap, ◌∙◌, subst}
use Rattle.std.proofs.lemmas.Slice.Eq.{bytes_eq-Decides}
use Rattle.std.specs.Prelude.{◌||◌, if◌then◌else◌, IsTrue, Option, Some, codes}
use Rattle.std.specs.List.{list_all}
use Rattle.std.specs.Str.{bytes_eq}
use Rattle.std.specs.Char.{is_ascii_digit}
use Rattle.av_lex.specs.declared.token.Kind.TheVariants as kinds
use Rattle.av_tree.specs.declared.class.Class.{Class}
use Rattle.av_tree.specs.declared.class.Class.TheVariants as class
use Rattle.av_tree.specs.declared.class.Keyword.{Keyword}
use Rattle.av_tree.specs.declared.class.Keyword.TheVariants as key
use Rattle.av_tree.specs.declared.table.Test.TheVariants as test
use Rattle.av_tree.specs.Classes.{fits_of, is_entry_name}
use Rattle.av_derive.specs.ClassOf.{keywords, found_in, class_of_keyword, spells_word}
use Rattle.av_derive.proofs.Keywords.{by-no-keyword}
use Rattle.av_print_laws.proofs.ExprParts.{either}
use Rattle.av_read_laws.proofs.Signs.{both}
use Rattle.av_read_laws.specs.Making.{class_of_word}

-- ---- any word but `function_type`
abbrev function_type : List ℕ
function_type = codes "function_type"

-- the word is `function_type`, or its keyword isn't that one
abbrev names_entry : List ℕ × Keyword → Bool
names_entry entry = bytes_eq entry.0 function_type || is_entry_name (class.Word entry.1)

all_name : list_all names_entry keywords ≡ true
unfolding keywords
all_name = refl

second : (a b : Bool) → a ≡ false → (a || b) ≡ true → b ≡ true
second a b fails either_one = sym (ap (λ (c : Bool). c || b) fails) ∙ either_one

abbrev IsName : List ℕ → Option Keyword → Type 0
IsName text found = IsTrue (is_entry_name (class_of_keyword found text))

found_name : (entry : List ℕ × Keyword) (text : List ℕ) → text ≡ entry.0 → names_entry entry ≡ true → bytes_eq text function_type ≡ false
    → IsTrue (is_entry_name (class.Word entry.1))
found_name entry text is names other =
    second (bytes_eq entry.0 function_type) (is_entry_name (class.Word entry.1)) (sym (ap (λ (word : List ℕ). bytes_eq word function_type) is) ∙ other) names

other_name : (entries : List (List ℕ × Keyword)) (text : List ℕ) → list_all names_entry entries ≡ true → bytes_eq text function_type ≡ false
    → IsName text (found_in entries text)
other_name [] text all other = by-no-keyword (λ (c : Class). IsTrue (is_entry_name c)) (λ number. refl) refl refl text
other_name (entry ∷ rest) text all other =
    let each = both (names_entry entry) (list_all names_entry rest) all in
    either (IsName text) (bytes_eq text entry.0) (Some entry.1) (found_in rest text)
    (λ same. found_name entry text ((bytes_eq-Decides text entry.0).0 same) each.0 other) (λ differ. other_name rest text each.1 other)

fits_other : (text : List ℕ) → bytes_eq text function_type ≡ false → IsTrue (fits_of test.EntryName (class_of_word (kinds.Word, text)))
fits_other text other = other_name keywords text all_name other

-- what holds of `function_type` and of any word that fits as another name holds of any word
pub by_name : (P : List ℕ → Type 0) (text : List ℕ) → P (codes "function_type")
    → (IsTrue (fits_of test.EntryName (class_of_word (kinds.Word, text))) → P text) → P text
by_name P text one other = chosen (bytes_eq text function_type) refl
  where
    chosen : (b : Bool) → bytes_eq text function_type ≡ b → P text
    chosen true is = subst P (sym ((bytes_eq-Decides text function_type).0 is)) one
    chosen false is = other (fits_other text is)

-- ---- the words of attributes
pub class-function_type : class_of_word (kinds.Word, codes "function_type") ≡ class.Word key.FunctionType
unfolding keywords
class-function_type = refl

pub class-array : class_of_word (kinds.Word, codes "array") ≡ class.Word key.Array
unfolding keywords
class-array = refl

pub class-dense : class_of_word (kinds.Word, codes "dense") ≡ class.Word key.Dense
unfolding keywords
class-dense = refl

pub fits_truth : (b : Bool) → IsTrue (fits_of test.Bool (class_of_word (kinds.Word, if b then codes "true" else codes "false")))
unfolding keywords
fits_truth true = refl
fits_truth false = refl

-- ---- names behind `#`
pub by_hash : (P : Class → Type 0) → P class.HashDigits → P class.HashWord → P class.HashOther → (text : List ℕ) → P (class_of_word (kinds.HashId, text))
by_hash P digits word other [] = other
by_hash P digits word other (mark ∷ text) =
    either P (list_all is_ascii_digit text) class.HashDigits _ (λ b. digits)
    (λ b. either P (spells_word text) class.HashWord class.HashOther (λ c. word) (λ c. other))
