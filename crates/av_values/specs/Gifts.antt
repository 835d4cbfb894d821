-- What an item of a form gives to an operation: its operands, which are put before those of the items behind it, and a change of another kind.
use Rattle.std.specs.Prelude.{ℕ, ℤ, pos, ◌-◌, suc, if◌then◌else◌, List, [], ◌∷◌, ◌++◌, codes, drop, length, map, slice_set, take, Option, None, Some}
use Rattle.std.specs.Str.{bytes_eq}
use Rattle.av_dialects.specs.declared.item.Slot.{Slot}
use Rattle.av_dialects.specs.declared.item.Slot.TheVariants as slot
use Rattle.av_dialects.specs.declared.item.Slots.{Slots}
use Rattle.av_dialects.specs.declared.item.Slots.TheVariants as slots
use Rattle.av_tree.specs.declared.attribute.Attr.{Attr, Attr-F, out-Attr}
use Rattle.av_tree.specs.declared.attribute.Attr.TheVariants as attr
use Rattle.av_tree.specs.declared.attribute.Attr.TheOpen as attrs
use Rattle.av_tree.specs.declared.attribute.Named.{Named, out-Named}
use Rattle.av_tree.specs.declared.node.Body.{Body, out-Body, roll-Body}
use Rattle.av_tree.specs.declared.node.BodyArg.{BodyArg}
use Rattle.av_tree.specs.declared.node.Node.{Node, Node-F}
use Rattle.av_tree.specs.declared.written.TypeText.{TypeText}
use Rattle.av_tree.specs.declared.written.TypeText.TheVariants as types
use Rattle.av_values.specs.declared.gifts.Change.{Change}
use Rattle.av_values.specs.declared.gifts.Change.TheVariants as change
use Rattle.av_values.specs.declared.gifts.Gift.{Gift}
use Rattle.av_values.specs.Loops.{counter, ended}
use Rattle.av_values.specs.Nodes.{entry}

-- an operation, open
abbrev pub Line : Type 0
Line = Node-F Body Node

-- a type that isn't written for each operand, and types that all are
abbrev pub unwritten : List (List ℕ) → List (Option TypeText)
unwritten operands = map (λ _. None) operands

abbrev pub all_written : List TypeText → List (Option TypeText)
all_written ts = map (λ (t : TypeText). Some t) ts

-- all but the last so many, and these
abbrev pub front : {A : Type 0} → ℕ → List A → List A
front k xs = take (length xs - k) xs

abbrev pub back : {A : Type 0} → ℕ → List A → List A
back k xs = drop (length xs - k) xs

-- ---- types at slots
-- the place of a slot among the types of so many operands, or of the results
abbrev pub place_of : Slot → ℕ → ℕ
place_of (slot.Input i) count = i
place_of (slot.LastInput i) count = count - suc i
place_of slot.Output count = 0

-- the types among which a slot is
abbrev pub types_around : Slot → Line → List (Option TypeText)
types_around (slot.Input _) n = n.in_types
types_around (slot.LastInput _) n = n.in_types
types_around slot.Output n = n.out_types

abbrev pub with_types_around : Slot → Line → List (Option TypeText) → Line
with_types_around (slot.Input _) n ts = record n { in_types = ts }
with_types_around (slot.LastInput _) n ts = record n { in_types = ts }
with_types_around slot.Output n ts = record n { out_types = ts }

-- with another type at a slot, if there is such a slot
abbrev pub put_at_slot : Slot → Option TypeText → Line → Line
put_at_slot s t n = with_types_around s n (slice_set (types_around s n) (place_of s (length (types_around s n))) t)

-- with this type at all these slots
abbrev pub filled : Slots → TypeText → Line → Line
filled (slots.One a) t n = put_at_slot a (Some t) n
filled (slots.Two a b) t n = put_at_slot a (Some t) (put_at_slot b (Some t) n)
filled (slots.Three a b c) t n = put_at_slot a (Some t) (put_at_slot b (Some t) (put_at_slot c (Some t) n))

-- ---- bounds
-- how many operands the bounds have, and how many are behind them: the last of the properties
abbrev pub sizes_entry : List ℤ → Named
sizes_entry numbers = entry (codes "operandSegmentSizes") (attr.Array (types.Scalar (codes "i32")) numbers)

abbrev pub numbers_in : Attr-F Attr Named → List ℤ
numbers_in (attrs.Array t numbers) = numbers
numbers_in _ = []

abbrev pub first_numbers : List Named → List ℤ
first_numbers [] = []
first_numbers (e ∷ es) = numbers_in (out-Attr (out-Named e).value)

abbrev pub last_numbers : List Named → List ℤ
last_numbers es = first_numbers (back 1 es)

-- with a lower bound of so many operands
abbrev pub with_lower : Attr → ℕ → List Named → List Named
with_lower map size es = entry (codes "lowerBoundMap") map ∷ (front 1 es ++ sizes_entry (pos size ∷ last_numbers es) ∷ [])

-- with an upper bound of so many operands, and so many behind them
abbrev pub with_upper : Attr → ℕ → ℕ → List Named → List Named
with_upper map size behind es = entry (codes "upperBoundMap") map ∷ (es ++ sizes_entry (pos size ∷ pos behind ∷ []) ∷ [])

-- ---- regions
-- the arguments of the first region
abbrev pub args_in : List Body → List BodyArg
args_in [] = []
args_in (body ∷ bodies) = (out-Body body).args

-- the same with other arguments
abbrev pub with_args_in : List BodyArg → List Body → List Body
with_args_in args [] = []
with_args_in args (body ∷ bodies) = roll-Body (record (out-Body body) { args = args }) ∷ bodies

-- with these arguments before its own
abbrev pub with_args_before : List BodyArg → List Body → List Body
with_args_before args bodies = with_args_in (args ++ args_in bodies) bodies

-- what ends a region of an operation of this name where none is written
abbrev pub end_of : List ℕ → List ℕ
end_of name = if bytes_eq name (codes "scf.for") then codes "scf.yield" else codes "affine.yield"

-- the region of these written operations; its arguments come from other items
abbrev pub region_of : List ℕ → List Node → Body
region_of name nodes = roll-Body (record { args = []; nodes = ended (end_of name) nodes })

-- ---- carried values
-- the last of the types, one for each of these
abbrev pub with_last : List (Option TypeText) → List (Option TypeText) → List (Option TypeText)
with_last own ts = front (length own) ts ++ own

-- ---- what is given
abbrev pub changed : Change → Line → Line
changed change.Nothing n = n
changed (change.Typed ts) n = record n { in_types = all_written ts }
changed (change.Filled s t) n = filled s t n
changed (change.Chosen c) n = record n { in_types = c.condition ∷ Some c.operands ∷ Some c.operands ∷ []; out_types = Some c.operands ∷ [] }
changed (change.Properties es) n = record n { properties = es ++ n.properties }
changed (change.Attributes es) n = record n { attrs = es }
changed (change.Valued c) n = record n { properties = entry (codes "value") c.value ∷ n.properties; out_types = c.ty ∷ [] }
changed (change.Counting name) n = record n { regions = with_args_before (counter name ∷ []) n.regions }
changed (change.Lower map size) n = record n { properties = with_lower map size n.properties }
changed (change.Upper map size) n = record n { properties = with_upper map size (length n.operands) n.properties }
changed (change.Carrying args ts) n = record n {
  regions = with_args_before args n.regions;
  in_types = with_last (all_written ts) n.in_types;
  out_types = all_written ts;
}
changed (change.Results ts) n = record n { out_types = all_written ts }
changed (change.Region nodes) n = record n { regions = region_of n.name nodes ∷ n.regions }

abbrev pub given : Gift → Line → Line
given gift n = record (changed gift.change n) { operands = gift.operands ++ (changed gift.change n).operands }
