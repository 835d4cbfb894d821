use Rattle.std.specs.Prelude.{ℕ, ◌≡◌, ◌≤◌, false, List, ◌⊎◌, length, slice_index}
use Rattle.av_lex.specs.declared.token.Kind.{Kind}
use Rattle.av_lex.specs.declared.token.Kind.TheVariants as kinds
use Rattle.av_lex.specs.declared.step.Step.{Step}
use Rattle.av_lex.specs.declared.step.Step.TheVariants.{Separator, Token, BadByte, LongNumber}
use Rattle.av_lex.specs.Spellings.{Spells, Longest, IsShort, Separates, IsBlank}
use Rattle.av_lex.specs.declared.class.Class.TheVariants.{Digit, WordStart}
use Rattle.av_lex.specs.Bytes.{in_class}
use Rattle.av_lex.specs.Tokens.{BadAt, LongAt}

-- the step is what stands at the begin of r
abbrev pub Next : List ℕ → Step → Type 0
Next r (Separator n) = Separates r n
Next r (Token k n) = Longest k r n × IsShort k n
Next r (BadByte n) = BadAt r n
Next r (LongNumber n) = LongAt r n

-- what begins with the byte c is of the shorter kind, alone, or of the longer, with the byte `second`
pub record Pair (c second : ℕ) (shorter longer : Kind) : Type 0 where
  pub which : (r : List ℕ) (o : Kind) (n : ℕ) → slice_index r 0 ≡ c → Spells o r n
      → ((o ≡ shorter) × (n ≡ 1)) ⊎ ((o ≡ longer) × (n ≡ 2) × (slice_index r 1 ≡ second))
  pub short_spelled : (r : List ℕ) → 1 ≤ length r → slice_index r 0 ≡ c → Spells shorter r 1
  pub long_spelled : (r : List ℕ) → 2 ≤ length r → slice_index r 0 ≡ c → slice_index r 1 ≡ second → Spells longer r 2
  pub short_short : IsShort shorter 1
  pub short_long : IsShort longer 2

-- tokens of the kind begin with the byte c and have a name
abbrev pub IsNameOf : Kind → ℕ → Type 0
IsNameOf kinds.ValId c = c ≡ 37
IsNameOf kinds.SymId c = c ≡ 64
IsNameOf kinds.HashId c = c ≡ 35
IsNameOf kinds.CaretId c = c ≡ 94
IsNameOf _ c = ⊥

-- the byte c is no blank, no `/`, and begins no token but a sign of one byte
pub record NoOther (c : ℕ) : Type 0 where
  pub blank : IsBlank c → ⊥
  pub slash : c ≡ 47 → ⊥
  pub word : in_class WordStart c ≡ false
  pub digit : in_class Digit c ≡ false
  pub percent : c ≡ 37 → ⊥
  pub at : c ≡ 64 → ⊥
  pub hash : c ≡ 35 → ⊥
  pub caret : c ≡ 94 → ⊥
  pub quote : c ≡ 34 → ⊥
  pub question : c ≡ 63 → ⊥
  pub square : c ≡ 91 → ⊥
  pub minus : c ≡ 45 → ⊥
  pub greater : c ≡ 62 → ⊥
  pub equal : c ≡ 61 → ⊥
