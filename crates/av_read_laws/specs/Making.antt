-- The values that the rows of the format make of the words of a text.
use Rattle.std.specs.Prelude.{◌≡◌, ℕ, ◌≤◌, Bool, true, false, IsTrue, List, [], ◌∷◌, ◌++◌, map, count_by, Some}
use Rattle.av_lex.specs.declared.token.Kind.{Kind}
use Rattle.av_lex.specs.declared.token.Sign.{Sign}
use Rattle.av_lex.specs.declared.token.Sign.TheVariants as sign
use Rattle.av_lex.specs.declared.token.Token.{Token}
use Rattle.av_tree.specs.declared.class.Class.{Class}
use Rattle.av_tree.specs.declared.class.Class.TheVariants as class
use Rattle.av_tree.specs.declared.class.Keyword.{Keyword}
use Rattle.av_tree.specs.declared.class.Keyword.TheVariants as key
use Rattle.av_tree.specs.declared.table.Test.{Test}
use Rattle.av_tree.specs.declared.table.Symbol.{Symbol}
use Rattle.av_tree.specs.declared.table.Symbol.TheVariants as symbol
use Rattle.av_tree.specs.declared.table.Name.{Name}
use Rattle.av_tree.specs.declared.table.Rule.{Rule}
use Rattle.av_tree.specs.Table.{symbols_of, name_of}
use Rattle.av_tree.specs.Classes.{fits_of}
use Rattle.av_tree.specs.Signs.{begins_expression}
use Rattle.av_derive.specs.ClassOf.{class_of, spelling_of}
use Rattle.av_values.specs.declared.value.Value.{Value}
use Rattle.av_values.specs.declared.value.Value.TheVariants as value
use Rattle.av_reader.specs.Building as building

-- a token as a word: its kind and its text
abbrev pub Word : Type 0
Word = Kind × List ℕ

-- the words of the tokens of a text
abbrev pub words_of : List ℕ → List Token → List Word
words_of bytes tokens = map (λ (token : Token). (token.kind, spelling_of bytes token)) tokens

-- the class of a word
abbrev pub class_of_word : Word → Class
class_of_word word = class_of word.0 word.1

-- the signs and words of calculation
abbrev pub is_calculation : Class → Bool
is_calculation (class.Sign sign.Plus) = true
is_calculation (class.Sign sign.Minus) = true
is_calculation (class.Sign sign.Star) = true
is_calculation (class.Word key.Division) = true
is_calculation _ = false

-- at most so many signs and words of calculation are among these words, where they are those of an expression
abbrev pub FewSigns : Bool → ℕ → List Word → Type 0
FewSigns true most words = count_by (λ (word : Word). is_calculation (class_of_word word)) words ≤ most
FewSigns false most words = Unit {0}

-- From the left, the symbols give these words, and the values are made of them, the first one on top. A sign or a
-- word gives itself, and has no value; a test gives a word that fits it, whose text is a value; a name gives what
-- the symbols of one of its rows give, and the row makes one value of theirs. No expression has more signs and
-- words of calculation than so many.
pub data Makes (most : ℕ) : List Symbol → List Word → List Value → Type 0 where
  nothing : Makes most [] [] []
  by_sign : {s : Sign} {w : Word} {ss : List Symbol} {ws : List Word} {vs : List Value} → class_of_word w ≡ class.Sign s
      → Makes most ss ws vs → Makes most (symbol.Sign s ∷ ss) (w ∷ ws) vs
  by_word : {k : Keyword} {w : Word} {ss : List Symbol} {ws : List Word} {vs : List Value} → class_of_word w ≡ class.Word k
      → Makes most ss ws vs → Makes most (symbol.Word k ∷ ss) (w ∷ ws) vs
  by_token : {t : Test} {w : Word} {ss : List Symbol} {ws : List Word} {vs : List Value} → IsTrue (fits_of t (class_of_word w))
      → Makes most ss ws vs → Makes most (symbol.Token t ∷ ss) (w ∷ ws) (value.Text w.1 ∷ vs)
  by_row : {x : Name} {ss : List Symbol} {ws : List Word} {others : List Word} {vs : List Value} {v : Value} {parts : List Value} (r : Rule)
      → name_of r ≡ x → FewSigns (begins_expression r) most ws
      → Makes most (symbols_of r) ws parts → building.by_row r 0 parts ≡ Some (v ∷ [])
      → Makes most ss others vs → Makes most (symbol.Rows x ∷ ss) (ws ++ others) (v ∷ vs)
