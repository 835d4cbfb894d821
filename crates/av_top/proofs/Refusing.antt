-- What a refusal that is handed on says of the bytes.
use Rattle.std.proofs.Common.{◌≡◌, ℕ, ◌≤◌, List, length, Result, Ok, Err, IsErrAnd, IfErr, subst, sym}
use Rattle.av_lex.specs.declared.token.Token.{Token}
use Rattle.av_lex.specs.declared.token.LexFault.{LexFault}
use Rattle.av_lex.specs.declared.token.LexFault.TheVariants as lex
use Rattle.av_lex.specs.Tokens.{LexesTo, Tokens}
use Rattle.av_reader.specs.declared.reading.ReadRefusal.{ReadRefusal}
use Rattle.av_reader.specs.declared.reading.ReadRefusal.TheVariants as reader
use Rattle.av_reader.specs.Reading.{IsRefusal}
use Rattle.av_top.specs.declared.answer.Refusal.{Refusal}
use Rattle.av_top.specs.declared.answer.Refusal.TheVariants.{BadText, NotBuilt, NoMemory}
use Rattle.av_top.specs.FirstPathText.{IsText}
use Rattle.av_top.specs.Refusals.{Refuses, RefusesTree, lex_refused, read_refused}
use Rattle.av_top.proofs.OneModule.{IsOnlyTree, module_of_text}

-- an error that is handed on says what is said of it
pub handed_on : {T E : Type 0} (r : Result T E) (given : E) (Says : E → Type 0) → IsErrAnd r (λ x. x ≡ given) → Says given → IfErr r Says
handed_on (Ok x) given Says h says = absurd h
handed_on (Err x) given Says h says = subst Says (sym h) says

pub lex_says : (bytes : List ℕ) (size : ℕ) (fault : LexFault) → length bytes ≤ 1048576 → LexesTo bytes (Err fault) → Refuses (lex_refused fault) size bytes
lex_says bytes size (lex.BadByte place) few says = record { few = few; amiss = says }
lex_says bytes size (lex.LongNumber place) few says = record { few = few; amiss = says }
lex_says bytes size lex.NoMemory few says = tt

pub read_says : (bytes : List ℕ) (size : ℕ) (tokens : List Token) (refusal : ReadRefusal) → length bytes ≤ 1048576 → Tokens bytes tokens → IsRefusal bytes tokens refusal → Refuses (read_refused refusal) size bytes
read_says bytes size tokens (reader.NotAModule place) few lexed says = record { few = few; amiss = record { tokens = tokens; lexed = lexed; refused = says } }
read_says bytes size tokens (reader.TooDeep place) few lexed says = record { few = few; amiss = record { tokens = tokens; lexed = lexed; refused = says } }
read_says bytes size tokens reader.NoMemory few lexed says = tt

pub tree_says : (bytes : List ℕ) (size : ℕ) (text : IsText bytes) (refusal : Refusal) → IsOnlyTree bytes text → RefusesTree refusal size text.tree → Refuses refusal size bytes
tree_says bytes size text (BadText place fault) only says = absurd says
tree_says bytes size text NotBuilt only says = record { text = text; other = λ other. says other.result (module_of_text size bytes text only other) }
tree_says bytes size text NoMemory only says = tt
