-- Constants, and maps and sets that are written or named, and what they are in the tree.
use Rattle.std.specs.Prelude.{ℕ, ℤ, Bool, true, false, List, [], ◌∷◌, length, Option, None, Some}
use Rattle.av_tree.specs.declared.attribute.Attr.{Attr, Attr-F, out-Attr}
use Rattle.av_tree.specs.declared.attribute.Attr.TheVariants as attr
use Rattle.av_tree.specs.declared.attribute.Attr.TheOpen as attrs
use Rattle.av_tree.specs.declared.attribute.Element.{Element}
use Rattle.av_tree.specs.declared.attribute.Named.{Named, out-Named}
use Rattle.av_tree.specs.declared.written.MapText.{MapText}
use Rattle.av_tree.specs.declared.written.SetText.{SetText}
use Rattle.av_tree.specs.declared.written.TypeText.{TypeText}

-- ---- constants
pub data Constant : Type 0 where
  of_number : ℤ → TypeText → Constant
  of_elements : Element → TypeText → Constant
  -- its type isn't written
  truth : Bool → Constant

abbrev pub constant_attr : Constant → Attr
constant_attr (of_number z t) = attr.Number z t
constant_attr (of_elements e t) = attr.Dense e t
constant_attr (truth b) = attr.Bool b

abbrev pub constant_type : Constant → Option TypeText
constant_type (of_number z t) = Some t
constant_type (of_elements e t) = Some t
constant_type (truth b) = None

-- the constant that an attribute is, or any
abbrev pub constant_in : Attr-F Attr Named → Constant
constant_in (attrs.Number z t) = of_number z t
constant_in (attrs.Dense e t) = of_elements e t
constant_in (attrs.Bool b) = truth b
constant_in _ = truth false

abbrev pub first_constant : List Named → Constant
first_constant [] = truth false
first_constant (e ∷ es) = constant_in (out-Attr (out-Named e).value)

-- ---- maps and sets
pub data Applied : Type 0 where
  written_map : MapText → Applied
  written_set : SetText → Applied
  -- the name of one
  alias : List ℕ → Applied

abbrev pub applied_attr : Applied → Attr
applied_attr (written_map m) = attr.Map m
applied_attr (written_set s) = attr.Set s
applied_attr (alias name) = attr.AliasUse name

-- the map, set or name that an attribute is, or any
abbrev pub applied_in : Attr-F Attr Named → Applied
applied_in (attrs.Map m) = written_map m
applied_in (attrs.Set s) = written_set s
applied_in (attrs.AliasUse name) = alias name
applied_in _ = alias []

abbrev pub first_applied : List Named → Applied
first_applied [] = alias []
first_applied (e ∷ es) = applied_in (out-Attr (out-Named e).value)

abbrev pub is_map : Applied → Bool
is_map (written_set s) = false
is_map _ = true

abbrev pub is_set : Applied → Bool
is_set (written_map m) = false
is_set _ = true

-- how many of so many operands are of dimensions; of what has only a name it isn't known, and all are written as such
abbrev pub dimensions_of : Applied → ℕ → ℕ
dimensions_of (written_map m) count = length m.dims
dimensions_of (written_set s) count = length s.dims
dimensions_of (alias name) count = count
