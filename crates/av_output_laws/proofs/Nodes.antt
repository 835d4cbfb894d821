-- What the rows of operations make of the values of lines.
use Rattle.std.proofs.Common.{◌≡◌, ℕ, List, [], ◌∷◌, ◌++◌, map, refl, ap, ◌∙◌}
use Rattle.std.specs.Fmt.{digits}
use Rattle.av_dialects.specs.Rows.{forms, names, results}
use Rattle.std.specs.Prelude.{ℤ, reverse, Option, Some, None, codes}
use Rattle.av_tree.specs.declared.attribute.Attr.TheVariants as attr
use Rattle.av_tree.specs.declared.attribute.Named.{Named}
use Rattle.av_tree.specs.declared.node.Node.{Node, Node-F, out-Node, roll-Node, out-roll-Node}
use Rattle.av_tree.specs.declared.node.Body.{Body}
use Rattle.av_tree.specs.declared.written.TypeText.{TypeText}
use Rattle.av_tree.specs.declared.written.ExprText.TheBlock.{shape-the_row-ExprText-0, hidden-the_row-ExprText-0}
use denote.Hole.Carrier.{hidden}
use Rattle.av_values.specs.Nodes.{plain}
use Rattle.av_values.specs.Made.{by_row}
use Rattle.av_values.specs.Sorts.{on_top, replaced}
use Rattle.av_values.specs.declared.value.Value.TheVariants as value
use Rattle.av_values.specs.Accesses.{numbered, numbered_all, first_names}
use Rattle.av_values.specs.Operations.{named, terminator_of, no_values}
use Rattle.av_program_laws.specs.Programs.{Subscript, fixed, variable, plus, minus}
use Rattle.av_program_laws.specs.WrittenTrees.{entry, map_entry, subscript_map}
use Rattle.av_output_laws.proofs.Subscripts.{subscript_value, dims_in}

-- a change of a layer
pub via : (change : Node-F Body Node → Node-F Body Node) {node : Node} (x : Node-F Body Node) → node ≡ roll-Node x
    → roll-Node (change (out-Node node)) ≡ roll-Node (change x)
via change {node} x is = ap (λ (n : Node). roll-Node (change (out-Node n))) is ∙ ap (λ (y : Node-F Body Node). roll-Node (change y)) (out-roll-Node x)

-- a node of these parts, without regions
abbrev pub layer : List ℕ → List (List ℕ) → List (List ℕ) → List Named → List Named → List (Option TypeText) → List (Option TypeText) → Node-F Body Node
layer name results operands properties attrs in_types out_types = record {
  name = name;
  place = 0;
  results = results;
  operands = operands;
  properties = properties;
  attrs = attrs;
  regions = [];
  in_types = in_types;
  out_types = out_types;
}

abbrev pub bare : List ℕ → Node-F Body Node
bare name = layer name [] [] [] [] [] []

pub plain-is : (name : List ℕ) → plain name 0 ≡ roll-Node (bare name)
unfolding plain
plain-is name = refl

pub named-is : {node : Node} (x : Node-F Body Node) (name : List ℕ) → node ≡ roll-Node x
    → named node (name ∷ []) 0 ≡ roll-Node (record x { results = name ∷ []; place = 0 })
named-is x name is = via (λ (x : Node-F Body Node). record x { results = name ∷ []; place = 0 }) x is

pub terminator-is : terminator_of (codes "return") no_values 0 ≡ roll-Node (bare (codes "func.return"))
terminator-is = via (λ (x : Node-F Body Node). record x { operands = []; in_types = [] }) _ (plain-is (codes "func.return"))

-- ---- rows of operations
pub constant-row : (z : ℤ) (type : TypeText)
    → by_row 3 0 (value.Constant (record { value = attr.Number z type; ty = Some type }) ∷ [])
    ≡ Some (value.Node (roll-Node (layer (codes "arith.constant") [] [] (entry (codes "value") (attr.Number z type) ∷ []) [] [] (Some type ∷ []))) ∷ [])
unfolding forms names results replaced on_top
constant-row z type = refl

pub sum-row : (left right : List ℕ) (type : TypeText)
    → by_row 4 0 (value.Text left ∷ value.Text right ∷ value.Entries [] ∷ value.Type type ∷ [])
    ≡ Some (value.Node (roll-Node (layer (codes "arith.addi") [] (left ∷ right ∷ []) [] [] (Some type ∷ Some type ∷ []) (Some type ∷ []))) ∷ [])
unfolding forms names results replaced on_top
sum-row left right type = refl

-- the nodes of a load and of a store, by cases of the subscript
abbrev pub access_layer : List ℕ → List (List ℕ) → List (Option TypeText) → List ℕ → Subscript → List ℕ → TypeText → List Named → List (Option TypeText) → Node-F Body Node
access_layer name first first_types buffer at text type attrs out_types =
    layer name [] (first ++ buffer ∷ dims_in text at) (map_entry (codes "map") (subscript_map at) ∷ []) attrs
    (first_types ++ Some type ∷ map (λ (value : List ℕ). None) (dims_in text at)) out_types

pub load-row : (buffer text : List ℕ) (at : Subscript) (attrs : List Named) (type : TypeText)
    → by_row 37 0 (value.Text buffer ∷ value.Expressions (subscript_value text at ∷ []) ∷ value.Entries attrs ∷ value.Type type ∷ [])
    ≡ Some (value.Node (roll-Node (access_layer (codes "affine.load") [] [] buffer at text type (reverse attrs) (None ∷ []))) ∷ [])
unfolding forms names results replaced on_top numbered numbered_all first_names digits shape-the_row-ExprText-0 hidden-the_row-ExprText-0 hidden
load-row buffer text (fixed z) attrs type = refl
load-row buffer text variable attrs type = refl
load-row buffer text (plus z) attrs type = refl
load-row buffer text (minus z) attrs type = refl

pub store-row : (stored buffer text : List ℕ) (at : Subscript) (attrs : List Named) (type : TypeText)
    → by_row 38 0 (value.Text stored ∷ value.Text buffer ∷ value.Expressions (subscript_value text at ∷ []) ∷ value.Entries attrs ∷ value.Type type ∷ [])
    ≡ Some (value.Node (roll-Node (access_layer (codes "affine.store") (stored ∷ []) (None ∷ []) buffer at text type (reverse attrs) [])) ∷ [])
unfolding forms names results replaced on_top numbered numbered_all first_names digits shape-the_row-ExprText-0 hidden-the_row-ExprText-0 hidden
store-row stored buffer text (fixed z) attrs type = refl
store-row stored buffer text variable attrs type = refl
store-row stored buffer text (plus z) attrs type = refl
store-row stored buffer text (minus z) attrs type = refl
