-- A spelling in pieces: words, each with the kind of token that it is, and the gaps between them.
use Rattle.std.specs.Prelude.{ℕ, zero, suc, List, [], ◌∷◌, ◌++◌, codes}
use Rattle.av_lex.specs.declared.token.Kind.{Kind}
use Rattle.av_lex.specs.declared.token.Kind.TheVariants as kinds
use Rattle.av_lex.specs.declared.token.Sign.{Sign}
use Rattle.av_lex.specs.declared.token.Sign.TheVariants.{OpenRound, CloseRound, OpenSquare, CloseSquare, OpenCurly, CloseCurly, Comma, Colon}
use Rattle.av_lex.specs.Spellings.{sign_text}

pub data Piece : Type 0 where
  -- a blank between two words of a line
  blank : Piece
  -- a line end, and two blanks on the next line for each region around it
  line : ℕ → Piece
  word : Kind → List ℕ → Piece

-- two blanks for each region
unfoldable pub margin : ℕ → List ℕ
margin zero = []
margin (suc depth) = margin depth ++ codes "  "

abbrev pub piece_text : Piece → List ℕ
piece_text blank = codes " "
piece_text (line depth) = 10 ∷ margin depth
piece_text (word kind text) = text

-- the bytes of pieces
unfoldable pub spelt : List Piece → List ℕ
spelt [] = []
spelt (piece ∷ pieces) = piece_text piece ++ spelt pieces

-- ---- one piece
unfoldable pub space : List Piece
space = blank ∷ []

unfoldable pub new_line : ℕ → List Piece
new_line depth = line depth ∷ []

unfoldable pub token : Kind → List ℕ → List Piece
token kind text = word kind text ∷ []

unfoldable pub sign : Sign → List Piece
sign s = word (kinds.Sign s) (sign_text s) ∷ []

-- a word of the format, or a name that is one
abbrev pub plain : List ℕ → List Piece
plain text = token kinds.Word text

-- ---- several
-- a sign between two blanks
abbrev pub spaced : List Piece → List Piece
spaced pieces = space ++ pieces ++ space

abbrev pub comma : List Piece
comma = sign Comma ++ space

abbrev pub colon : List Piece
colon = sign Colon ++ space

-- a comma, but before the first of several
unfoldable pub comma_after : ℕ → List Piece
comma_after zero = []
comma_after (suc before) = comma

-- several with a comma behind each but the last
unfoldable mutual
  pub commas : List (List Piece) → List Piece
  commas [] = []
  commas (first ∷ others) = first ++ behind others

  pub behind : List (List Piece) → List Piece
  behind [] = []
  behind (next ∷ others) = comma ++ next ++ behind others

unfoldable pub joined : List (List Piece) → List Piece
joined [] = []
joined (first ∷ others) = first ++ joined others

abbrev pub in_round : List Piece → List Piece
in_round pieces = sign OpenRound ++ pieces ++ sign CloseRound

abbrev pub in_square : List Piece → List Piece
in_square pieces = sign OpenSquare ++ pieces ++ sign CloseSquare

abbrev pub in_curly : List Piece → List Piece
in_curly pieces = sign OpenCurly ++ pieces ++ sign CloseCurly
