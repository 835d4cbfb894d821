use Rattle.std.specs.Prelude.{ℕ, ◌+◌, ◌≡◌, ◌≤◌, ◌<◌, ◌⊎◌, List, [], ◌∷◌, true, length, slice_index}
use Rattle.av_lex.specs.declared.token.Kind.{Kind}
use Rattle.av_lex.specs.declared.token.Kind.TheVariants as kinds
use Rattle.av_lex.specs.declared.token.Sign.{Sign}
use Rattle.av_lex.specs.declared.token.Sign.TheVariants.{OpenRound, CloseRound, OpenCurly, CloseCurly, OpenSquare, CloseSquare, OpenAngle, CloseAngle, Comma, Colon, Equal, Plus, Star, Minus, Question, Arrow, AtLeast, EqualEqual}
use Rattle.av_lex.specs.declared.class.Class.TheVariants as classes
use Rattle.av_lex.specs.Bytes.{in_class, Run}

-- the bytes of a sign
abbrev pub sign_text : Sign → List ℕ
sign_text OpenRound = 40 ∷ []
sign_text CloseRound = 41 ∷ []
sign_text OpenCurly = 123 ∷ []
sign_text CloseCurly = 125 ∷ []
sign_text OpenSquare = 91 ∷ []
sign_text CloseSquare = 93 ∷ []
sign_text OpenAngle = 60 ∷ []
sign_text CloseAngle = 62 ∷ []
sign_text Comma = 44 ∷ []
sign_text Colon = 58 ∷ []
sign_text Equal = 61 ∷ []
sign_text Plus = 43 ∷ []
sign_text Star = 42 ∷ []
sign_text Minus = 45 ∷ []
sign_text Question = 63 ∷ []
sign_text Arrow = 45 ∷ 62 ∷ []
sign_text AtLeast = 62 ∷ 61 ∷ []
sign_text EqualEqual = 61 ∷ 61 ∷ []

-- the first n bytes of r are the byte `mark` and then digits alone, or what can begin a name and then bytes of names
abbrev pub Named : ℕ → List ℕ → ℕ → Type 0
Named mark r n = (slice_index r 0 ≡ mark) × (2 ≤ n)
    × (Run classes.Digit r 1 n ⊎ ((in_class classes.NameStart (slice_index r 1) ≡ true) × Run classes.Name r 2 n))

-- the first n bytes of r are d digits and `x`, or `?x`
abbrev pub Sized : List ℕ → ℕ → Type 0
Sized r n = ((d : ℕ) × (n ≡ d + 1) × (1 ≤ d) × Run classes.Digit r 0 d × (slice_index r d ≡ 120))
    ⊎ ((n ≡ 2) × (slice_index r 0 ≡ 63) × (slice_index r 1 ≡ 120))

-- the first n bytes of r are a spelling of the kind, of which a run of digits may have any length
abbrev pub Spelling : Kind → List ℕ → ℕ → Type 0
Spelling kinds.Word r n = (1 ≤ n) × (in_class classes.WordStart (slice_index r 0) ≡ true) × Run classes.Word r 1 n
Spelling kinds.Number r n = (1 ≤ n) × Run classes.Digit r 0 n
Spelling kinds.DimX r n = Sized r n
Spelling kinds.ScalX r n = (e : ℕ) × (n ≡ e + 2) × (2 ≤ e) × (slice_index r 0 ≡ 91) × Run classes.Digit r 1 e
    × (slice_index r e ≡ 93) × (slice_index r (e + 1) ≡ 120)
Spelling kinds.ValId r n = Named 37 r n
Spelling kinds.SymId r n = Named 64 r n
Spelling kinds.HashId r n = Named 35 r n
Spelling kinds.CaretId r n = Named 94 r n
Spelling kinds.Quoted r n = (e : ℕ) × (n ≡ e + 1) × (1 ≤ e) × (slice_index r 0 ≡ 34) × Run classes.Quoted r 1 e × (slice_index r e ≡ 34)
Spelling (kinds.Sign s) r n = (n ≡ length (sign_text s)) × ((i : ℕ) → i < n → slice_index r i ≡ slice_index (sign_text s) i)

-- the text r begins with a spelling of the kind, of n bytes
pub record Spells (k : Kind) (r : List ℕ) (n : ℕ) : Type 0 where
  pub within : n ≤ length r
  pub spelled : Spelling k r n

-- and no other spelling at the begin of r is longer
pub record Longest (k : Kind) (r : List ℕ) (n : ℕ) : Type 0 where
  pub spells : Spells k r n
  pub longest : (other : Kind) (m : ℕ) → Spells other r m → m ≤ n

-- a run of digits that is a number or a size, in a token of n bytes, has at most 38
abbrev pub IsShort : Kind → ℕ → Type 0
IsShort kinds.Number n = n ≤ 38
IsShort kinds.DimX n = n ≤ 38 + 1
IsShort kinds.ScalX n = n ≤ 38 + 3
IsShort _ n = Unit {0}

-- where the digits begin in a token of the kind
abbrev pub digits_from : Kind → ℕ
digits_from kinds.ScalX = 1
digits_from _ = 0

-- space, tab, CR or LF
abbrev pub IsBlank : ℕ → Type 0
IsBlank c = (c ≡ 32) ⊎ (c ≡ 9) ⊎ (c ≡ 13) ⊎ (c ≡ 10)

-- the first n bytes of r are `//` and what stands up to LF or the end
abbrev pub IsComment : List ℕ → ℕ → Type 0
IsComment r n = (2 ≤ n) × (slice_index r 0 ≡ 47) × (slice_index r 1 ≡ 47) × Run classes.Comment r 2 n
    × (n < length r → slice_index r n ≡ 10)

-- the text r begins with a blank or a comment, of n bytes
pub record Separates (r : List ℕ) (n : ℕ) : Type 0 where
  pub within : n ≤ length r
  pub is : ((n ≡ 1) × IsBlank (slice_index r 0)) ⊎ IsComment r n
