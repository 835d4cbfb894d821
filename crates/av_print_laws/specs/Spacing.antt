-- The words of pieces as tokens, and where what follows a word can't be taken for more of it.
use Rattle.std.specs.Prelude.{ℕ, ◌+◌, ◌≡◌, ◌==◌, ◌||◌, Bool, true, false, not, List, [], ◌∷◌, ◌++◌, length, if◌then◌else◌}
use Rattle.av_lex.specs.declared.token.Kind.{Kind}
use Rattle.av_lex.specs.declared.token.Kind.TheVariants as kinds
use Rattle.av_lex.specs.declared.token.Sign.{Sign}
use Rattle.av_lex.specs.declared.token.Sign.TheVariants.{OpenSquare, CloseAngle, Equal, Minus, Question}
use Rattle.av_lex.specs.declared.token.Token.{Token}
use Rattle.av_lex.specs.declared.class.Class.TheVariants as classes
use Rattle.av_lex.specs.Bytes.{in_class}
use Rattle.av_lex.specs.Spellings.{Spells, IsShort}
use Rattle.av_printer.specs.Pieces.{Piece, blank, line, word, piece_text, spelt}

-- the words of pieces, the first of which stands at a place
unfoldable pub tokens_of : List Piece → ℕ → List Token
tokens_of [] place = []
tokens_of (blank ∷ pieces) place = tokens_of pieces (place + 1)
tokens_of (line depth ∷ pieces) place = tokens_of pieces (place + length (piece_text (line depth)))
tokens_of (word kind text ∷ pieces) place =
    record { kind = kind; place = place; length = length text } ∷ tokens_of pieces (place + length text)

-- the kinds and the texts of the words of pieces, in order
unfoldable pub words_of : List Piece → List (Kind × List ℕ)
words_of [] = []
words_of (blank ∷ pieces) = words_of pieces
words_of (line depth ∷ pieces) = words_of pieces
words_of (word kind text ∷ pieces) = (kind, text) ∷ words_of pieces

-- a text has a first byte, and it is one of these
abbrev pub begins_with : (ℕ → Bool) → List ℕ → Bool
begins_with is [] = false
begins_with is (byte ∷ rest) = is byte

-- a text begins with `]x`
abbrev pub closes_size : List ℕ → Bool
closes_size [] = false
closes_size (byte ∷ rest) = if byte == 93 then begins_with (λ next. next == 120) rest else false

-- a text begins with digits, or none, and then `]x`
unfoldable pub goes_on_as_size : List ℕ → Bool
goes_on_as_size [] = false
goes_on_as_size (byte ∷ rest) = if in_class classes.Digit byte then goes_on_as_size rest else closes_size (byte ∷ rest)

-- what follows a sign can be taken with it as a longer token
unfoldable pub lengthens_sign : Sign → List ℕ → Bool
lengthens_sign OpenSquare rest = goes_on_as_size rest
lengthens_sign Minus rest = begins_with (λ byte. byte == 62) rest
lengthens_sign CloseAngle rest = begins_with (λ byte. byte == 61) rest
lengthens_sign Equal rest = begins_with (λ byte. byte == 61) rest
lengthens_sign Question rest = begins_with (λ byte. byte == 120) rest
lengthens_sign _ rest = false

-- what follows a token of this kind can be taken with it as a longer token
unfoldable pub lengthens : Kind → List ℕ → Bool
lengthens kinds.Word rest = begins_with (in_class classes.Word) rest
lengthens kinds.Number rest = begins_with (λ byte. in_class classes.Digit byte || (byte == 120)) rest
lengthens kinds.ValId rest = begins_with (in_class classes.Name) rest
lengthens kinds.SymId rest = begins_with (in_class classes.Name) rest
lengthens kinds.HashId rest = begins_with (in_class classes.Name) rest
lengthens kinds.CaretId rest = begins_with (in_class classes.Name) rest
lengthens kinds.DimX rest = false
lengthens kinds.ScalX rest = false
lengthens kinds.Quoted rest = false
lengthens (kinds.Sign s) rest = lengthens_sign s rest

-- a text is empty, or begins with a byte that lengthens no word before it but `-` and `[`
abbrev pub begins_apart : List ℕ → Bool
begins_apart [] = true
begins_apart (byte ∷ rest) = not (in_class classes.Name byte || (byte == 61))

-- a text is, whole, a token of the kind
pub record IsWord (kind : Kind) (text : List ℕ) : Type 0 where
  pub spells : Spells kind text (length text)
  pub short : IsShort kind (length text)

-- each word of pieces is one, and what follows it doesn't lengthen it, where this text stands behind the pieces
unfoldable pub SpacedBefore : List Piece → List ℕ → Type 0
SpacedBefore [] rest = Unit {0}
SpacedBefore (blank ∷ pieces) rest = SpacedBefore pieces rest
SpacedBefore (line depth ∷ pieces) rest = SpacedBefore pieces rest
SpacedBefore (word kind text ∷ pieces) rest =
    IsWord kind text × (lengthens kind (spelt pieces ++ rest) ≡ false) × SpacedBefore pieces rest

-- the same where nothing stands behind them
abbrev pub Spaced : List Piece → Type 0
Spaced pieces = SpacedBefore pieces []
