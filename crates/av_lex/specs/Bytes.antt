use Rattle.std.specs.Prelude.{ℕ, Bool, not, ◌&&◌, ◌||◌, ◌==◌, nat_le, ◌≤◌, ◌<◌, ◌≡◌, true, List, slice_index}
use Rattle.std.specs.Char.{is_ascii_digit, is_ascii_alphabetic, is_ascii_alphanumeric}
use Rattle.av_lex.specs.declared.class.Class.{Class}
use Rattle.av_lex.specs.declared.class.Class.TheVariants.{Digit, WordStart, Word, NameStart, Name, Quoted, Comment}

-- a byte is of the class
unfoldable pub in_class : Class → ℕ → Bool
in_class Digit c = is_ascii_digit c
in_class WordStart c = is_ascii_alphabetic c || (c == 95)
in_class Word c = is_ascii_alphanumeric c || (c == 95) || (c == 36) || (c == 46)
in_class NameStart c = is_ascii_alphabetic c || (c == 95) || (c == 36) || (c == 46) || (c == 45)
in_class Name c = is_ascii_alphanumeric c || (c == 95) || (c == 36) || (c == 46) || (c == 45)
in_class Quoted c = nat_le 32 c && nat_le c 126 && not (c == 34) && not (c == 92)
in_class Comment c = not (c == 10)

-- the bytes of r from place a up to place b are of the class
abbrev pub Run : Class → List ℕ → ℕ → ℕ → Type 0
Run class r a b = (i : ℕ) → a ≤ i → i < b → in_class class (slice_index r i) ≡ true
