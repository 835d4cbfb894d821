use Rattle.std.specs.Prelude.{ℕ, ◌+◌, ◌≡◌, ◌≤◌, ◌⊎◌, List, [], ◌∷◌, ◌++◌, length, take, drop, Result, Ok, Err}
use Rattle.av_lex.specs.declared.token.Kind.{Kind}
use Rattle.av_lex.specs.declared.token.Token.{Token}
use Rattle.av_lex.specs.declared.token.LexFault.{LexFault}
use Rattle.av_lex.specs.declared.token.LexFault.TheVariants.{BadByte, LongNumber, NoMemory}
use Rattle.av_lex.specs.Spellings.{Spells, Longest, IsShort, digits_from, Separates}

-- the text b up to a place is these tokens and what separates them, each token the longest that stands at its place
pub data Lexed (b : List ℕ) : List Token → ℕ → Type 0 where
  start : Lexed b [] 0
  separator : {ts : List Token} {p : ℕ} (n : ℕ) → Lexed b ts p → Separates (drop p b) n → Lexed b ts (p + n)
  token : {ts : List Token} {p : ℕ} (k : Kind) (n : ℕ) → Lexed b ts p → Longest k (drop p b) n → IsShort k n
      → Lexed b (ts ++ record { kind = k; place = p; length = n } ∷ []) (p + n)

-- the tokens of the text b
abbrev pub Tokens : List ℕ → List Token → Type 0
Tokens b ts = Lexed b ts (length b)

-- some bytes behind the first n bytes of r would make a token that they begin or are
pub record Begins (r : List ℕ) (n : ℕ) : Type 0 where
  pub within : n ≤ length r
  pub more : List ℕ
  pub kind : Kind
  pub size : ℕ
  pub spells : Spells kind (take n r ++ more) size
  pub covers : n ≤ size

-- r begins with no token and no separator, and its first n bytes and no more begin a token
pub record BadAt (r : List ℕ) (n : ℕ) : Type 0 where
  pub no_token : (k : Kind) (m : ℕ) → Spells k r m → ⊥
  pub no_separator : (m : ℕ) → Separates r m → ⊥
  pub begins : Begins r n
  pub furthest : (m : ℕ) → Begins r m → m ≤ n

-- the longest token at the begin of r has more than 38 digits, which begin at place n
pub record LongAt (r : List ℕ) (n : ℕ) : Type 0 where
  pub kind : Kind
  pub size : ℕ
  pub longest : Longest kind r size
  pub long : IsShort kind size → ⊥
  pub from : n ≡ digits_from kind

-- the text b has tokens and separators up to a place that is not its end, and there this is amiss
pub data FaultOf (b : List ℕ) : LexFault → Type 0 where
  bad : {ts : List Token} {p : ℕ} (n : ℕ) → Lexed b ts p → p + 1 ≤ length b → BadAt (drop p b) n → FaultOf b (BadByte (p + n))
  long : {ts : List Token} {p : ℕ} (n : ℕ) → Lexed b ts p → p + 1 ≤ length b → LongAt (drop p b) n → FaultOf b (LongNumber (p + n))

-- an answer is the tokens of the text b, or its first fault, or want of memory
abbrev pub LexesTo : List ℕ → Result (List Token) LexFault → Type 0
LexesTo b (Ok ts) = Tokens b ts
LexesTo b (Err NoMemory) = Unit {0}
LexesTo b (Err (BadByte p)) = FaultOf b (BadByte p)
LexesTo b (Err (LongNumber p)) = FaultOf b (LongNumber p)

-- tokens of the text b are those of the answer, want of memory aside
abbrev pub OnlyTokens : List ℕ → Result (List Token) LexFault → Type 0
OnlyTokens b result = (ts : List Token) → Tokens b ts → (result ≡ Ok ts) ⊎ (result ≡ Err NoMemory)

-- a first fault of the text b is that of the answer, want of memory aside
abbrev pub OnlyFault : List ℕ → Result (List Token) LexFault → Type 0
OnlyFault b result = (f : LexFault) → FaultOf b f → (result ≡ Err f) ⊎ (result ≡ Err NoMemory)
