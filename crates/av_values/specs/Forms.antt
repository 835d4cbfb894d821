-- Constants, the types of a choice, and operations of the generic form.
use Rattle.std.specs.Prelude.{ℕ, ℤ, Bool, true, false, ◌&&◌, if◌then◌else◌, List, [], ◌∷◌, ◌++◌, codes, map, Option, Some, None}
use Rattle.std.specs.Str.{bytes_eq}
use Rattle.av_tree.specs.declared.node.Node.{Node, out-Node, roll-Node}
use Rattle.av_tree.specs.declared.node.Body.{Body, out-Body, roll-Body}
use Rattle.av_tree.specs.declared.attribute.Attr.TheVariants as attr
use Rattle.av_tree.specs.declared.written.TypeText.{TypeText}
use Rattle.av_values.specs.declared.value.Constant.{Constant}
use Rattle.av_values.specs.declared.value.Dense.{Dense}
use Rattle.av_values.specs.declared.value.GenericParts.{GenericParts}
use Rattle.av_values.specs.declared.value.Selected.{Selected}
use Rattle.av_values.specs.Nodes.{plain}

-- ---- parts of forms

-- the types of a choice after a vector type: that of the condition and that of the operands, or the latter alone
abbrev pub selected_of : TypeText → Option TypeText → Selected
selected_of first None = record { condition = None; operands = first }
selected_of first (Some next) = record { condition = Some first; operands = next }

-- a number of a type, which is also the result's
abbrev pub number_constant_of : ℤ → TypeText → Constant
number_constant_of value type = record { value = attr.Number value type; ty = Some type }

-- elements of a type, likewise
abbrev pub dense_constant_of : Dense → Constant
dense_constant_of dense = record { value = attr.Dense dense.elements dense.ty; ty = Some dense.ty }

-- ---- the generic form

-- an operation of this name and all its parts
abbrev pub generic_of : List ℕ → GenericParts → ℕ → Node
generic_of name parts place = roll-Node (record {
  name = name;
  place = place;
  results = [];
  operands = parts.operands;
  properties = parts.properties;
  attrs = parts.attrs;
  regions = parts.regions;
  in_types = map (λ (type : TypeText). Some type) parts.in_types;
  out_types = map (λ (type : TypeText). Some type) parts.out_types;
})

-- ---- a branch that lacks its second region's terminator

-- whether there are none
abbrev pub is_none : {A : Type 0} → List A → Bool
is_none [] = true
is_none (_ ∷ _) = false

-- whether there is a second region, without operations
abbrev pub lacks_second : List Body → Bool
lacks_second (first ∷ second ∷ others) = is_none (out-Body second).nodes
lacks_second _ = false

-- a region with a terminator after its operations
abbrev pub with_end : Body → Body
with_end body = roll-Body (record (out-Body body) { nodes = (out-Body body).nodes ++ plain (codes "affine.yield") 0 ∷ [] })

-- the second region with a terminator where it has no operation; the others as they are
abbrev pub second_ended : List Body → List Body
second_ended (first ∷ second ∷ others) = first ∷ (if is_none (out-Body second).nodes then with_end second else second) ∷ others
second_ended regions = regions

-- whether this is a branch without results
abbrev pub is_plain_branch : Node → Bool
is_plain_branch node = bytes_eq (out-Node node).name (codes "affine.if") && is_none (out-Node node).out_types

-- an operation without names of results, as it stands among others: the second region of a branch may be empty where it has no results, and gets a terminator then
unfoldable pub completed : Node → Node
completed node = if is_plain_branch node then roll-Node (record (out-Node node) { regions = second_ended (out-Node node).regions }) else node
