-- An operation without its regions' insides, and its types one by one.
use Rattle.std.specs.Prelude.{ℕ, List, [], ◌∷◌, length, Option, None, Some, slice_get, codes}
use Rattle.av_tree.specs.declared.written.TypeText.{TypeText}
use Rattle.av_tree.specs.declared.written.TypeText.TheVariants as types
use Rattle.av_dialects.specs.declared.item.Slot.{Slot}
use Rattle.av_dialects.specs.declared.item.Slots.{Slots}
use Rattle.av_dialects.specs.declared.item.Slots.TheVariants as slots
use Rattle.av_values.specs.Gifts.{Line, place_of, put_at_slot, types_around}

abbrev pub first_text : List (List ℕ) → List ℕ
first_text [] = []
first_text (text ∷ texts) = text

-- the types that are written
abbrev pub known : List (Option TypeText) → List TypeText
known [] = []
known (None ∷ others) = known others
known (Some t ∷ others) = t ∷ known others

-- ---- types
-- the type at a slot, if there is such a slot
abbrev pub at_slot : Slot → Line → Option (Option TypeText)
at_slot s n = slice_get (types_around s n) (place_of s (length (types_around s n)))

-- with no type at all these slots
abbrev pub cleared : Slots → Line → Line
cleared (slots.One a) n = put_at_slot a None n
cleared (slots.Two a b) n = put_at_slot b None (put_at_slot a None n)
cleared (slots.Three a b c) n = put_at_slot c None (put_at_slot b None (put_at_slot a None n))

abbrev pub first_slot : Slots → Slot
first_slot (slots.One a) = a
first_slot (slots.Two a b) = a
first_slot (slots.Three a b c) = a

-- a type that is there and written; any type otherwise
abbrev pub type_or_any : Option (Option TypeText) → TypeText
type_or_any None = types.Scalar (codes "index")
type_or_any (Some None) = types.Scalar (codes "index")
type_or_any (Some (Some t)) = t

abbrev pub type_at : Slots → Line → TypeText
type_at s n = type_or_any (at_slot (first_slot s) n)
