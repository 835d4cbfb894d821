-- The parts of a loop.
use Rattle.std.specs.Prelude.{ℕ, ℤ, Bool, false, ◌||◌, ◌-◌, if◌then◌else◌, List, [], ◌∷◌, ◌++◌, length, map, slice_get, codes}
use Rattle.std.specs.Option.{option_map_or}
use Rattle.std.specs.Str.{bytes_eq}
use Rattle.av_tree.specs.declared.node.Node.{Node, out-Node}
use Rattle.av_tree.specs.declared.node.BodyArg.{BodyArg}
use Rattle.av_tree.specs.declared.attribute.Attr.{Attr}
use Rattle.av_tree.specs.declared.attribute.Attr.TheVariants as attr
use Rattle.av_tree.specs.declared.written.ExprText.TheVariants as expr
use Rattle.av_tree.specs.declared.written.TypeText.{TypeText}
use Rattle.av_tree.specs.declared.written.TypeText.TheVariants as ty
use Rattle.av_values.specs.declared.value.MapUse.{MapUse}
use Rattle.av_values.specs.declared.value.CarriedPair.{CarriedPair}
use Rattle.av_values.specs.declared.loops.CarriedLists.{CarriedLists}
use Rattle.av_values.specs.Nodes.{plain}

abbrev pub index_type : TypeText
index_type = ty.Scalar (codes "index")

-- the argument of a loop's region that counts
abbrev pub counter : List ℕ → BodyArg
counter name = record { name = name; ty = index_type }

abbrev pub step : ℤ → Attr
step value = attr.Number value index_type

-- the bound of a number, which is the map `() -> (number)`
abbrev pub bound_of_number : ℤ → MapUse
bound_of_number number =
    record { map = attr.Map (record { dims = []; syms = []; results = expr.Const number ∷ [] }); operands = [] }

-- the bound of a value, which is the map `()[s0] -> (s0)` of it
abbrev pub bound_of_value : List ℕ → MapUse
bound_of_value value = record {
  map = attr.Map (record { dims = []; syms = codes "s0" ∷ []; results = expr.Name (codes "s0") ∷ [] });
  operands = value ∷ [];
}

-- the names of operations that end a region
abbrev pub ends_region : List ℕ → Bool
ends_region name =
    bytes_eq name (codes "func.return") || bytes_eq name (codes "affine.yield")
    || bytes_eq name (codes "scf.yield") || bytes_eq name (codes "vector.yield")

-- whether the last of the operations ends a region
abbrev pub has_end : List Node → Bool
has_end nodes = option_map_or (λ (node : Node). ends_region (out-Node node).name) (slice_get nodes (length nodes - 1)) false

-- the operations of a region, with a terminator of this name where it is left out
unfoldable pub ended : List ℕ → List Node → List Node
ended name nodes = if has_end nodes then nodes else nodes ++ plain name 0 ∷ []

-- with one carried argument more, its first value and itself
abbrev pub with_pair : CarriedLists → CarriedPair → TypeText → CarriedLists
with_pair lists pair type = record {
  inits = lists.inits ++ pair.init ∷ [];
  args = lists.args ++ record { name = pair.name; ty = type } ∷ [];
}

-- with a carried argument of each of the types, as far as there are arguments
unfoldable pub with_pairs : CarriedLists → List CarriedPair → List TypeText → CarriedLists
with_pairs lists pairs [] = lists
with_pairs lists [] (type ∷ types) = lists
with_pairs lists (pair ∷ pairs) (type ∷ types) = with_pairs (with_pair lists pair type) pairs types

-- the first values of carried arguments of these types, and the arguments
abbrev pub carried_lists : List CarriedPair → List TypeText → CarriedLists
carried_lists pairs types = with_pairs (record { inits = []; args = [] }) pairs types
