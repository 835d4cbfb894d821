-- The tree as which the text of a program is read again in a form, but for places. In their own forms operations leave types out, and
-- their properties stand in the order of reading; in generic form all types are written, and properties stand in order of name.
use Rattle.std.specs.Prelude.{ℕ, ℤ, pos, List, [], ◌∷◌, map, length, Option, Some, None, codes}
use Rattle.av_tree.specs.declared.attribute.Attr.TheVariants as attr
use Rattle.av_tree.specs.declared.attribute.Named.{Named}
use Rattle.av_tree.specs.declared.node.Node.{Node, roll-Node}
use Rattle.av_tree.specs.declared.node.Body.{Body, roll-Body}
use Rattle.av_tree.specs.declared.node.Tree.{Tree}
use Rattle.av_tree.specs.declared.written.TypeText.{TypeText}
use Rattle.av_tree.specs.declared.written.TypeText.TheVariants as text
use Rattle.av_printer.specs.declared.form.Form.{Form}
use Rattle.av_printer.specs.declared.form.Form.TheVariants as forms
use Rattle.av_totree.specs.Types.{type_of}
use Rattle.av_program_laws.specs.Programs.{Line, constant, sum, load, store, Step, single, counted, Program}
use Rattle.av_program_laws.specs.Walks.{Place, element, type_at, name_at, after_line, inside, after_step, body_place}
use Rattle.av_program_laws.specs.Modules.{subscript_values}
use Rattle.av_program_laws.specs.WrittenTrees.{entry, number_of, mark, map_entry, subscript_map, bound_map, next_name, constant_node, end_node, loop_body, arguments, function_properties, outer_node}

-- by name, with operands of a place and the types that are written of them, results and theirs, properties, marks and regions
unfoldable pub node : List ℕ → Place → List ℕ → List (Option TypeText) → List (List ℕ) → List (Option TypeText) → List Named → List Named → List Body → Node
node name place operands in_types results out_types properties marks regions = roll-Node (record {
  name = name;
  place = 0;
  results = results;
  operands = map (name_at place) operands;
  properties = properties;
  attrs = marks;
  regions = regions;
  in_types = in_types;
  out_types = out_types;
})

-- the type of a value, written
abbrev pub written : Place → ℕ → Option TypeText
written place value = Some (type_of (type_at place value))

-- a type that an operation's own form leaves out
abbrev pub if_generic : Form → Option TypeText → Option TypeText
if_generic forms.Named ty = None
if_generic forms.Generic ty = ty

-- the types of the values of a subscript
abbrev pub subscript_types : Form → Place → List ℕ → List (Option TypeText)
subscript_types form place values = map (λ value. if_generic form (written place value)) values

-- both operands of a sum have the type of the first
unfoldable pub line_node : Form → ℕ → Line → Place → Node
line_node form counter (constant pattern) place = constant_node pattern place
line_node form counter (sum left right) place =
    node (codes "arith.addi") place (left ∷ right ∷ []) (written place left ∷ written place left ∷ []) (next_name place) (written place left ∷ []) [] [] []
line_node form counter (load from at) place =
    node (codes "affine.load") place (from ∷ subscript_values counter at) (written place from ∷ subscript_types form place (subscript_values counter at))
    (next_name place) (if_generic form (Some (type_of element)) ∷ []) (map_entry (codes "map") (subscript_map at) ∷ []) (mark (codes "affvec.of") place.number) []
line_node form counter (store stored into at) place =
    node (codes "affine.store") place (stored ∷ into ∷ subscript_values counter at)
    (if_generic form (written place stored) ∷ written place into ∷ subscript_types form place (subscript_values counter at)) [] []
    (map_entry (codes "map") (subscript_map at) ∷ []) (mark (codes "affvec.of") place.number) []

unfoldable pub line_nodes : Form → ℕ → List Line → Place → List Node
line_nodes form counter [] place = end_node (codes "affine.yield") place ∷ []
line_nodes form counter (line ∷ lines) place = line_node form counter line place ∷ line_nodes form counter lines (after_line line place)

-- of no operands, with a step of 1
abbrev pub segments_entry : Named
segments_entry = entry (codes "operandSegmentSizes") (attr.Array (text.Scalar (codes "i32")) (pos 0 ∷ pos 0 ∷ pos 0 ∷ []))

abbrev pub step_entry : Named
step_entry = entry (codes "step") (number_of (codes "index") (pos 1))

abbrev pub loop_properties : Form → ℤ → ℤ → List Named
loop_properties forms.Named lower upper =
    map_entry (codes "lowerBoundMap") (bound_map lower)
    ∷ map_entry (codes "upperBoundMap") (bound_map upper)
    ∷ step_entry
    ∷ segments_entry
    ∷ []
loop_properties forms.Generic lower upper =
    map_entry (codes "lowerBoundMap") (bound_map lower)
    ∷ segments_entry
    ∷ step_entry
    ∷ map_entry (codes "upperBoundMap") (bound_map upper)
    ∷ []

unfoldable pub step_node : Form → Step → Place → Node
step_node form (single pattern) place = constant_node pattern place
step_node form (counted lower upper lines) place =
    node (codes "affine.for") place [] [] [] [] (loop_properties form lower upper) (mark (codes "affvec.loop") place.loops)
    (loop_body (line_nodes form (length place.types) lines (inside place)) place ∷ [])

unfoldable pub step_nodes : Form → List Step → Place → List Node
step_nodes form [] place = end_node (codes "func.return") place ∷ []
step_nodes form (step ∷ steps) place = step_node form step place ∷ step_nodes form steps (after_step step place)

abbrev pub function_node : Form → Program → Node
function_node form p =
    outer_node (codes "func.func") (function_properties p)
    (roll-Body (record { args = arguments 0 p.sizes; nodes = step_nodes form p.steps (body_place p) }))

abbrev pub read_tree : Form → Program → Tree
read_tree form p = record {
  aliases = [];
  root = outer_node (codes "builtin.module") [] (roll-Body (record { args = []; nodes = function_node form p ∷ [] }));
}
