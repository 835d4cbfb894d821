-- Why the bytes of an input are no text, and where.
use Rattle.std.specs.Prelude.{ℕ, ◌≤◌, List, ◌++◌, length, codes, decimal}
use Rattle.av_lex.specs.declared.token.Token.{Token}
use Rattle.av_lex.specs.declared.token.LexFault.TheVariants as lex
use Rattle.av_lex.specs.Tokens.{FaultOf, Tokens}
use Rattle.av_reader.specs.declared.reading.ReadRefusal.{ReadRefusal}
use Rattle.av_reader.specs.declared.reading.ReadRefusal.TheVariants as reader
use Rattle.av_reader.specs.Reading.{IsRefusal}
use Rattle.av_top.specs.declared.status.TextFault.{TextFault}
use Rattle.av_top.specs.declared.status.TextFault.TheVariants.{BadByte, LongNumber, NotAModule, TooDeep}

-- The bytes have tokens, and this refusal of a tree is theirs.
pub record AreRefused (bytes : List ℕ) (refusal : ReadRefusal) : Type 0 where
  pub tokens : List Token
  pub lexed : Tokens bytes tokens
  pub refused : IsRefusal bytes tokens refusal

-- What is amiss at a place: the first fault of bytes without tokens; or the first wrong token of bytes without a tree, where
-- their end is wrong if only more is missing, and whether a limit alone makes it wrong.
abbrev pub IsAmiss : List ℕ → ℕ → TextFault → Type 0
IsAmiss bytes place BadByte = FaultOf bytes (lex.BadByte place)
IsAmiss bytes place LongNumber = FaultOf bytes (lex.LongNumber place)
IsAmiss bytes place NotAModule = AreRefused bytes (reader.NotAModule place)
IsAmiss bytes place TooDeep = AreRefused bytes (reader.TooDeep place)

-- The bytes are at most a megabyte, and this is amiss at this place.
pub record IsTextFault (bytes : List ℕ) (place : ℕ) (fault : TextFault) : Type 0 where
  pub few : length bytes ≤ 1048576
  pub amiss : IsAmiss bytes place fault

-- the words that tell of a fault
abbrev pub words_of : TextFault → List ℕ
words_of BadByte = codes "bad byte"
words_of LongNumber = codes "long number"
words_of NotAModule = codes "not a module"
words_of TooDeep = codes "too deep"

-- the line that tells of a fault and its place
abbrev pub line_of : ℕ → TextFault → List ℕ
line_of place fault = codes "affvec: text at " ++ decimal place ++ codes ": " ++ words_of fault ++ codes "\n"
