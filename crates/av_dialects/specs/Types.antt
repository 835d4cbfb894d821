-- The types that a form writes, and those that it must write.
use Rattle.std.specs.Prelude.{ℕ, ◌+◌, ◌==◌, ◌&&◌, ◌||◌, Bool, true, false, not, List, [], ◌∷◌, ◌++◌}
use Rattle.std.specs.List.{list_all, list_any}
use Rattle.av_dialects.specs.declared.item.Item.{Item}
use Rattle.av_dialects.specs.declared.item.Item.TheVariants as item
use Rattle.av_dialects.specs.declared.item.Results.{Results}
use Rattle.av_dialects.specs.declared.item.Results.TheVariants as results
use Rattle.av_dialects.specs.declared.item.Slot.{Slot}
use Rattle.av_dialects.specs.declared.item.Slot.TheVariants as slot
use Rattle.av_dialects.specs.declared.item.Slots.{Slots}
use Rattle.av_dialects.specs.declared.item.Slots.TheVariants as slots
use Rattle.av_dialects.specs.declared.item.Typing.TheVariants as typing
use Rattle.av_dialects.specs.Rows.{Part}

-- ---- slots
abbrev pub is_slot : Slot → Slot → Bool
is_slot (slot.Input i) (slot.Input j) = i == j
is_slot (slot.LastInput i) (slot.LastInput j) = i == j
is_slot slot.Output slot.Output = true
is_slot _ _ = false

abbrev pub are_among : List Slot → List Slot → Bool
are_among some others = list_all (λ s. list_any (is_slot s) others) some

abbrev pub differ : List Slot → Bool
differ [] = true
differ (s ∷ others) = not (list_any (is_slot s) others) && differ others

abbrev pub slots_in : Slots → List Slot
slots_in (slots.One a) = a ∷ []
slots_in (slots.Two a b) = a ∷ b ∷ []
slots_in (slots.Three a b c) = a ∷ b ∷ c ∷ []

-- ---- what is written
abbrev pub written_by : Item → List Slot
written_by (item.Type _ s) = slots_in s
written_by item.ChoiceTypes = slot.Input 1 ∷ slot.Input 2 ∷ slot.Output ∷ []
written_by item.Constant = slot.Output ∷ []
written_by _ = []

abbrev pub written : List Part → List Slot
written [] = []
written (part ∷ parts) = written_by part.1 ++ written parts

-- the item writes the types of any number of results
abbrev pub writes_several : Item → Bool
writes_several item.Carried = true
writes_several item.ResultTypes = true
writes_several _ = false

-- ---- what must be written
-- how many operands an item takes at least
abbrev pub takes : Item → ℕ
takes (item.Operand _) = 1
takes item.Operands = 1
takes item.Element = 1
takes item.Access = 1
takes _ = 0

-- how many operands parts take at least
abbrev pub needs : List Part → ℕ
needs [] = 0
needs (part ∷ parts) = takes part.1 + needs parts

-- the item may take more: places behind it are counted from the last operand
abbrev pub takes_more : Item → Bool
takes_more item.OptionalOperand = true
takes_more item.Operands = true
takes_more item.TypedOperands = true
takes_more item.Element = true
takes_more item.Map = true
takes_more item.Set = true
takes_more item.Access = true
takes_more item.LowerBound = true
takes_more item.UpperBound = true
takes_more item.Carried = true
takes_more _ = false

-- the place of an operand: at a number from the first, or with so many behind it
abbrev pub slot_of : Bool → ℕ → ℕ → Slot
slot_of false at behind = slot.Input at
slot_of true at behind = slot.LastInput behind

-- what an item asks for, at a place, with so many operands needed behind it
abbrev pub asked_by : Bool → ℕ → ℕ → Item → List Slot
asked_by counted at behind (item.Operand typing.Written) = slot_of counted at behind ∷ []
asked_by counted at behind item.Element = slot.Input at ∷ []
asked_by counted at behind item.Access = slot.Input at ∷ []
asked_by counted at behind _ = []

abbrev pub asked : Bool → ℕ → List Part → List Slot
asked counted at [] = []
asked counted at (part ∷ parts) =
    asked_by counted at (needs parts) part.1 ++ asked (counted || takes_more part.1) (at + takes part.1) parts

abbrev pub asked_by_results : Results → List Slot
asked_by_results (results.One typing.Written) = slot.Output ∷ []
asked_by_results _ = []

-- a buffer has no place of its own behind an item that takes any number
abbrev pub has_buffer : Item → Bool
has_buffer item.Element = true
has_buffer item.Access = true
has_buffer _ = false

abbrev pub buffers_have_places : Bool → List Part → Bool
buffers_have_places counted [] = true
buffers_have_places counted (part ∷ parts) = not (counted && has_buffer part.1) && buffers_have_places (counted || takes_more part.1) parts

-- types of several results are written by an item of their own
abbrev pub several_are_written : Results → List Part → Bool
several_are_written results.Several parts = list_any (λ (part : Part). writes_several part.1) parts
several_are_written _ parts = not (list_any (λ (part : Part). writes_several part.1) parts)

-- ---- both are the same
abbrev pub are_the_same : List Slot → List Slot → Bool
are_the_same some others = differ some && are_among some others && are_among others some

-- a form writes each type that must be written once, and no other
abbrev pub types_are_written : Results → List Part → Bool
types_are_written r parts =
    are_the_same (written parts) (asked_by_results r ++ asked false 0 parts) && buffers_have_places false parts && several_are_written r parts

-- so it is in each of these forms of operations with these results
abbrev pub all_types_are_written : List Results → List (List Part) → Bool
all_types_are_written (r ∷ rs) (form ∷ forms) = types_are_written r form && all_types_are_written rs forms
all_types_are_written [] [] = true
all_types_are_written _ _ = false
