-- The tree that is printed for the module of a program: each type is written.
use Rattle.std.specs.Prelude.{ℕ, ◌+◌, ℤ, pos, List, [], ◌∷◌, map, length, Some, codes}
use Rattle.av_bits.specs.declared.types.Width.TheVariants.{W32}
use Rattle.av_ir.specs.declared.ty.Elem.TheVariants.{Index}
use Rattle.av_ir.specs.declared.ty.Ty.{Ty}
use Rattle.av_ir.specs.declared.ty.Ty.TheVariants.{Scalar}
use Rattle.av_tree.specs.declared.attribute.Attr.{Attr}
use Rattle.av_tree.specs.declared.attribute.Attr.TheVariants as attr
use Rattle.av_tree.specs.declared.attribute.Named.{Named, roll-Named}
use Rattle.av_tree.specs.declared.node.Node.{Node, roll-Node}
use Rattle.av_tree.specs.declared.node.Body.{Body, roll-Body}
use Rattle.av_tree.specs.declared.node.BodyArg.{BodyArg}
use Rattle.av_tree.specs.declared.node.Tree.{Tree}
use Rattle.av_tree.specs.declared.written.ExprText.{ExprText}
use Rattle.av_tree.specs.declared.written.ExprText.TheVariants as expr
use Rattle.av_tree.specs.declared.written.MapText.{MapText}
use Rattle.av_tree.specs.declared.written.TypeText.TheVariants as text
use Rattle.av_totree.specs.Types.{type_of}
use Rattle.av_totree.specs.Constants.{signed_low}
use Rattle.av_totree.specs.Names.{argument_name, operation_name}
use Rattle.av_program_laws.specs.Programs.{Subscript, fixed, variable, plus, minus, Line, constant, sum, load, store, Step, single, counted, Program}
use Rattle.av_program_laws.specs.Walks.{Place, element, buffer, type_at, name_at, after_line, inside, after_step, body_place}
use Rattle.av_program_laws.specs.Modules.{subscript_values}

-- ---- entries
abbrev pub entry : List ℕ → Attr → Named
entry name value = roll-Named (record { name = name; value = value })

abbrev pub number_of : List ℕ → ℤ → Attr
number_of type z = attr.Number z (text.Scalar type)

-- a mark with its number
abbrev pub mark : List ℕ → ℕ → List Named
mark name number = entry name (number_of (codes "i64") (pos number)) ∷ []

-- the number that a pattern of 32 bits is
abbrev pub constant_attr : ℕ → Attr
constant_attr pattern = number_of (codes "i32") (signed_low W32 pattern)

-- ---- maps
abbrev pub dimension : List ℕ
dimension = codes "d0"

abbrev pub over : List (List ℕ) → ExprText → MapText
over dims e = record { dims = dims; syms = []; results = e ∷ [] }

abbrev pub bound_map : ℤ → MapText
bound_map z = over [] (expr.Const z)

abbrev pub subscript_map : Subscript → MapText
subscript_map (fixed z) = over [] (expr.Const z)
subscript_map variable = over (dimension ∷ []) (expr.Name dimension)
subscript_map (plus z) = over (dimension ∷ []) (expr.Add (expr.Name dimension) (expr.Const z))
subscript_map (minus z) = over (dimension ∷ []) (expr.Sub (expr.Name dimension) (expr.Const z))

-- ---- operations
-- by name, with operands of a place, results, properties, marks and regions; the types of operands and results are written
unfoldable pub node : List ℕ → Place → List ℕ → List (List ℕ) → List Ty → List Named → List Named → List Body → Node
node name place operands results types properties marks regions = roll-Node (record {
  name = name;
  place = 0;
  results = results;
  operands = map (name_at place) operands;
  properties = properties;
  attrs = marks;
  regions = regions;
  in_types = map (λ value. Some (type_of (type_at place value))) operands;
  out_types = map (λ ty. Some (type_of ty)) types;
})

abbrev pub next_name : Place → List (List ℕ)
next_name place = operation_name place.operations ∷ []

unfoldable pub constant_node : ℕ → Place → Node
constant_node pattern place =
    node (codes "arith.constant") place [] (next_name place) (element ∷ []) (entry (codes "value") (constant_attr pattern) ∷ []) [] []

abbrev pub map_entry : List ℕ → MapText → Named
map_entry name m = entry name (attr.Map m)

unfoldable pub line_node : ℕ → Line → Place → Node
line_node counter (constant pattern) place = constant_node pattern place
line_node counter (sum left right) place =
    node (codes "arith.addi") place (left ∷ right ∷ []) (next_name place) (type_at place left ∷ []) [] [] []
line_node counter (load from at) place =
    node (codes "affine.load") place (from ∷ subscript_values counter at) (next_name place) (element ∷ [])
    (map_entry (codes "map") (subscript_map at) ∷ []) (mark (codes "affvec.of") place.number) []
line_node counter (store stored into at) place =
    node (codes "affine.store") place (stored ∷ into ∷ subscript_values counter at) [] []
    (map_entry (codes "map") (subscript_map at) ∷ []) (mark (codes "affvec.of") place.number) []

-- the end of a region
unfoldable pub end_node : List ℕ → Place → Node
end_node name place = node name place [] [] [] [] [] []

unfoldable pub line_nodes : ℕ → List Line → Place → List Node
line_nodes counter [] place = end_node (codes "affine.yield") place ∷ []
line_nodes counter (line ∷ lines) place = line_node counter line place ∷ line_nodes counter lines (after_line line place)

abbrev pub argument : List ℕ → Ty → BodyArg
argument name ty = record { name = name; ty = type_of ty }

-- of no operands, with a step of 1
abbrev pub loop_properties : ℤ → ℤ → List Named
loop_properties lower upper =
    entry (codes "operandSegmentSizes") (attr.Array (text.Scalar (codes "i32")) (pos 0 ∷ pos 0 ∷ pos 0 ∷ []))
    ∷ entry (codes "step") (number_of (codes "index") (pos 1))
    ∷ map_entry (codes "lowerBoundMap") (bound_map lower)
    ∷ map_entry (codes "upperBoundMap") (bound_map upper)
    ∷ []

unfoldable pub loop_body : List Node → Place → Body
loop_body nodes place =
    roll-Body (record { args = argument (argument_name place.arguments) (Scalar Index) ∷ []; nodes = nodes })

unfoldable pub step_node : Step → Place → Node
step_node (single pattern) place = constant_node pattern place
step_node (counted lower upper lines) place =
    node (codes "affine.for") place [] [] [] (loop_properties lower upper) (mark (codes "affvec.loop") place.loops)
    (loop_body (line_nodes (length place.types) lines (inside place)) place ∷ [])

unfoldable pub step_nodes : List Step → Place → List Node
step_nodes [] place = end_node (codes "func.return") place ∷ []
step_nodes (step ∷ steps) place = step_node step place ∷ step_nodes steps (after_step step place)

-- ---- the function and the module
-- the buffers, from a number on
unfoldable pub arguments : ℕ → List ℕ → List BodyArg
arguments number [] = []
arguments number (size ∷ sizes) = argument (argument_name number) (buffer size) ∷ arguments (number + 1) sizes

abbrev pub function_properties : Program → List Named
function_properties p =
    entry (codes "function_type") (attr.Type (text.Func (map (λ size. type_of (buffer size)) p.sizes) []))
    ∷ entry (codes "sym_name") (attr.Quoted p.name) ∷ []

unfoldable pub outer_node : List ℕ → List Named → Body → Node
outer_node name properties body = roll-Node (record {
  name = name;
  place = 0;
  results = [];
  operands = [];
  properties = properties;
  attrs = [];
  regions = body ∷ [];
  in_types = [];
  out_types = [];
})

abbrev pub function_node : Program → Node
function_node p =
    outer_node (codes "func.func") (function_properties p)
    (roll-Body (record { args = arguments 0 p.sizes; nodes = step_nodes p.steps (body_place p) }))

abbrev pub written_tree : Program → Tree
written_tree p = record {
  aliases = [];
  root = outer_node (codes "builtin.module") [] (roll-Body (record { args = []; nodes = function_node p ∷ [] }));
}
