-- Properties that a form says by a word or by numbers, and what they are in the tree.
use Rattle.std.specs.Prelude.{ℕ, zero, suc, ℤ, pos, negsuc, Bool, if◌then◌else◌, List, [], ◌∷◌, codes}
use Rattle.std.specs.List.{list_any}
use Rattle.std.specs.Str.{bytes_eq}
use Rattle.av_tree.specs.declared.attribute.Attr.{Attr, Attr-F, out-Attr}
use Rattle.av_tree.specs.declared.attribute.Attr.TheVariants as attr
use Rattle.av_tree.specs.declared.attribute.Attr.TheOpen as attrs
use Rattle.av_tree.specs.declared.attribute.Named.{Named, out-Named}
use Rattle.av_tree.specs.declared.written.TypeText.{TypeText}
use Rattle.av_tree.specs.declared.written.TypeText.TheVariants as types
use Rattle.av_values.specs.Nodes.{entry}
use Rattle.av_dialects.specs.declared.item.Key.{Key}
use Rattle.av_dialects.specs.declared.item.Key.TheVariants as key
use Rattle.av_dialects.specs.Rows.{kinds, overflow_flags, predicates, property_of}

abbrev pub long : TypeText
long = types.Scalar (codes "i64")

-- ---- words
-- the words that a property may have
abbrev pub words_of : Key → List (List ℕ)
words_of key.Predicate = predicates
words_of key.Kind = kinds
words_of _ = []

-- the place of a word among these
abbrev pub place_in : List (List ℕ) → List ℕ → ℕ
place_in [] word = 0
place_in (w ∷ ws) word = if bytes_eq word w then 0 else suc (place_in ws word)

abbrev pub word_at : List (List ℕ) → ℕ → List ℕ
word_at [] n = []
word_at (w ∷ ws) zero = w
word_at (w ∷ ws) (suc n) = word_at ws n

-- a word as the value of its property
abbrev pub said_by : Key → List ℕ → Attr
said_by key.Predicate word = attr.Number (pos (place_in predicates word)) long
said_by key.Kind word = attr.Hash (codes "#vector.kind") (word ∷ [])
said_by _ word = attr.Unit

-- ---- what a property says
abbrev pub number_word : ℤ → List ℕ
number_word (pos n) = word_at predicates n
number_word (negsuc n) = []

abbrev pub only_word : List (List ℕ) → List ℕ
only_word [] = []
only_word (word ∷ words) = word

abbrev pub word_in : Attr-F Attr Named → List ℕ
word_in (attrs.Number z t) = number_word z
word_in (attrs.Hash name words) = only_word words
word_in _ = []

abbrev pub words_in : Attr-F Attr Named → List (List ℕ)
words_in (attrs.Hash name words) = words
words_in _ = []

-- the value of the first property, if there is one
abbrev pub first_word : List Named → List ℕ
first_word [] = []
first_word (e ∷ es) = word_in (out-Attr (out-Named e).value)

-- ---- the properties themselves
abbrev pub word_entry : Key → List ℕ → Named
word_entry k word = entry (property_of k) (said_by k word)

abbrev pub numbers_entry : Key → List ℤ → Named
numbers_entry k numbers = entry (property_of k) (attr.Array long numbers)

-- the flags of overflow are a property where there are any
abbrev pub flag_entries : List (List ℕ) → List Named
flag_entries [] = []
flag_entries (flag ∷ flags) = entry (codes "overflowFlags") (attr.Hash (codes "#arith.overflow") (flag ∷ flags)) ∷ []

abbrev pub is_overflow : Named → Bool
is_overflow e = bytes_eq (out-Named e).name (codes "overflowFlags")

abbrev pub first_flags : List Named → List (List ℕ)
first_flags [] = []
first_flags (e ∷ es) = if is_overflow e then words_in (out-Attr (out-Named e).value) else []

abbrev pub without_flags : List Named → List Named
without_flags [] = []
without_flags (e ∷ es) = if is_overflow e then es else e ∷ es

abbrev pub is_flag : List ℕ → Bool
is_flag word = list_any (bytes_eq word) overflow_flags

abbrev pub is_word_of : Key → List ℕ → Bool
is_word_of k word = list_any (bytes_eq word) (words_of k)
