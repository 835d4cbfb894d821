-- The brackets of the trees that are printed for programs.
use Rattle.std.proofs.Common.{◌≡◌, ℕ, ◌+◌, Bool, true, false, List, [], ◌∷◌, ◌++◌, map, length, take, drop, refl, ◌∙◌, ap, sym, arith, codes}
use Rattle.std.specs.Prelude.{ℤ, pos, Option, Some}
use Rattle.std.specs.Ordering.{int_eq}
use Rattle.av_lex.specs.declared.token.Kind.TheVariants as kinds
use Rattle.av_lex.specs.declared.token.Sign.TheVariants.{OpenCurly, CloseCurly}
use Rattle.av_ir.specs.declared.ty.Elem.TheVariants.{Index}
use Rattle.av_ir.specs.declared.ty.Ty.TheVariants.{Scalar}
use Rattle.av_tree.specs.declared.attribute.Attr.{Attr, out-Attr, out-roll-Attr}
use Rattle.av_tree.specs.declared.attribute.Attr.TheVariants as attr
use Rattle.av_tree.specs.declared.attribute.Attr.TheOpen as open_attr
use Rattle.av_tree.specs.declared.attribute.Named.{Named}
use Rattle.av_tree.specs.declared.node.Node.{Node, Node-F, roll-Node, out-roll-Node}
use Rattle.av_tree.specs.declared.node.Body.{Body, Body-F, out-Body, roll-Body, out-roll-Body}
use Rattle.av_tree.specs.declared.node.BodyArg.{BodyArg}
use Rattle.av_tree.specs.declared.written.MapText.{MapText}
use Rattle.av_tree.specs.declared.written.TypeText.{TypeText, out-TypeText, out-roll-TypeText}
use Rattle.av_tree.specs.declared.written.TypeText.TheVariants as text
use Rattle.av_tree.specs.declared.written.TypeText.TheOpen as open_type
use Rattle.av_printer.specs.declared.form.Form.{Form}
use Rattle.av_printer.specs.declared.form.Form.TheVariants as printing
use Rattle.av_derive.specs.Derivation.{WithinBrackets}
use Rattle.av_printer.specs.declared.named.NamedForm.{NamedForm}
use Rattle.av_printer.specs.declared.named.NamedForm.TheVariants as own
use Rattle.av_printer.specs.Pieces.{Piece, space, new_line, sign, plain, joined}
use Rattle.av_printer.specs.Expressions.{first_value, value, number}
use Rattle.av_printer.specs.Operations as lines
use Rattle.av_printer.specs.Operations.{Head, first_of, property}
use Rattle.av_dialects.specs.Rows.{names, forms, form_of}
use Rattle.av_printer.specs.OwnForms.{own_form, own_line, own_end}
use Rattle.av_printer.specs.Parts.{before_regions, behind_regions, behind_seen, flags_of, bound_of}
use Rattle.av_printer.specs.Spelling.{Operation, on_line, left_out, operation_of, node_line, own_body, own_bodies, pieces_of}
use Rattle.av_printer.proofs.NodeSteps.{whole-own, own-of}
use Rattle.av_totree.specs.Types.{type_of}
use Rattle.av_totree.specs.Names.{argument_name}
use Rattle.av_program_laws.specs.Programs.{Subscript, Line, constant, sum, load, store, Step, single, counted, Program}
use Rattle.av_program_laws.specs.Walks.{Place, element, buffer, type_at, name_at, after_line, inside, after_step, body_place}
use Rattle.av_program_laws.specs.Modules.{subscript_values}
use Rattle.av_program_laws.specs.WrittenTrees.{entry, mark, next_name, constant_node, bound_map, map_entry, subscript_map, node, outer_node, line_node, end_node, line_nodes, argument, loop_properties, loop_body, step_node, step_nodes, arguments, function_properties, function_node, written_tree}
use Rattle.av_print_laws.proofs.ExprParts.{either}
use Rattle.av_program_laws.proofs.PrintedWalks.{property-first}
use Rattle.av_program_laws.proofs.Balance.{classes_in, Moves, whole_within, with, widen, nothing, one, opening, closing, round, plain_moves, space_moves, new_line_moves, Each, commas_moves, joined_moves, moves_as}
use Rattle.av_program_laws.proofs.BalanceOfForms.{ItemsMove, without_operands, line_moves, end_moves}
use Rattle.av_program_laws.proofs.BalanceOfParts.{number_moves, value_moves, results_moves, first_type_moves, mark_moves, subscripts_moves, map-only, constant_value_moves, bound_moves, argument_moves}

-- ---- one level of a node
abbrev pub head_in : Node-F Body Node → Head
head_in x = record {
  name = x.name;
  results = x.results;
  operands = x.operands;
  properties = x.properties;
  attrs = x.attrs;
  in_types = x.in_types;
  out_types = x.out_types;
  arguments = first_of (map (λ (b : Body). (out-Body b).args) x.regions);
}

abbrev level : NamedForm → ℕ → Node-F Body Node → List Piece
level form depth x =
    lines.results_before x.results ++ (own_line form (head_in x) ++ joined (own_bodies depth x.regions) ++ own_end form (head_in x))

level-is : (x : Node-F Body Node) (depth : ℕ) (form : NamedForm) → own_form x.name ≡ Some form
    → (operation_of (roll-Node x)).whole printing.Named depth ≡ level form depth x
level-is x depth form e =
    whole-own (roll-Node x) printing.Named depth form (ap (λ (y : Node-F Body Node). own_form y.name) (out-roll-Node x) ∙ e)
    ∙ ap (level form depth) (out-roll-Node x)

-- an operation moves so at each depth
abbrev NodeMoves : ℕ → Node → Type 0
NodeMoves k n = (depth : ℕ) → Moves k 0 ((operation_of n).whole printing.Named depth)

abbrev NodesMove : ℕ → List Node → Type 0
NodesMove k [] = Unit {0}
NodesMove k (n ∷ ns) = NodeMoves k n × NodesMove k ns

node_moves : (k : ℕ) (x : Node-F Body Node) (form : NamedForm) → own_form x.name ≡ Some form → Moves k 0 (own_line form (head_in x))
    → ((depth : ℕ) → Each k (own_bodies depth x.regions)) → Moves k 0 (own_end form (head_in x)) → NodeMoves k (roll-Node x)
node_moves k x form e begins bodies ends depth =
    moves_as ((operation_of (roll-Node x)).whole printing.Named depth) (level-is x depth form e)
    (with (results_moves k x.results)
    (with (with begins (joined_moves k (own_bodies depth x.regions) (bodies depth)) (omega arith)) ends (omega arith)) (omega arith))

pub on_line_moves : (form : Form) (k depth : ℕ) (op : Operation) → Moves k 0 (op.whole form depth) → Moves k 0 (on_line form depth op)
unfolding on_line
on_line_moves form k depth op m =
    either (Moves k 0) (left_out form op) [] (new_line depth ++ op.whole form depth) (λ b. nothing k)
    (λ b. with (new_line_moves k depth) m (omega arith))

lines_each : (k depth : ℕ) (ns : List Node) → NodesMove k ns → Each k (map (node_line printing.Named depth) ns)
lines_each k depth [] h = tt
lines_each k depth (n ∷ ns) h = (on_line_moves printing.Named k depth (operation_of n) (h.0 depth), lines_each k depth ns h.1)

module _ (k : ℕ) (args : List BodyArg) (nodes : List Node) where
  abbrev within_body : Body-F Body Node
  within_body = record { args = args; nodes = nodes }

  abbrev region_at : ℕ → Body-F Body Node → List Piece
  region_at depth b = space ++ sign OpenCurly ++ joined (map (node_line printing.Named (depth + 1)) b.nodes) ++ new_line depth ++ sign CloseCurly

  body_moves : (depth : ℕ) → NodesMove k nodes → Moves (k + 1) 0 (own_body depth (roll-Body within_body))
  body_moves depth h =
      moves_as (own_body depth (roll-Body within_body))
      (own-of depth (roll-Body within_body) ∙ ap (region_at depth) (out-roll-Body within_body))
      (closing CloseCurly
      (with
      (with (opening OpenCurly (space_moves (k + 1)) refl (omega arith))
      (joined_moves k (map (node_line printing.Named (depth + 1)) nodes) (lines_each k (depth + 1) nodes h)) (omega arith))
      (new_line_moves 0 depth) (omega arith))
      refl (omega arith) (omega arith))

  one_body : NodesMove k nodes → (depth : ℕ) → Each (k + 1) (map (own_body depth) (roll-Body within_body ∷ []))
  one_body h depth = (body_moves depth h, tt)

-- ---- lines in a loop
-- an operation by the row of its name: what its items move before the regions and behind them
row_moves : (k : ℕ) (x : Node-F Body Node) (row : ℕ) → own_form x.name ≡ Some (own.Row row)
    → ItemsMove k (head_in x) x.operands (before_regions (form_of row)) → ((depth : ℕ) → Each k (own_bodies depth x.regions))
    → ItemsMove k (head_in x) [] (behind_regions (form_of row)) → NodeMoves k (roll-Node x)
row_moves k x row e begins bodies ends =
    node_moves k x (own.Row row) e (line_moves k (head_in x) (form_of row) begins) bodies (end_moves k (head_in x) (form_of row) ends)

constant_moves : (pattern : ℕ) (place : Place) → NodeMoves 2 (constant_node pattern place)
unfolding constant_node node own_form names forms before_regions behind_seen
constant_moves pattern place = row_moves 2 _ _ refl ((λ n m. widen 2 (constant_value_moves pattern) (omega arith)), tt) (λ depth. tt) tt

first_moves : (values : List (List ℕ)) → Moves 2 0 (first_value values)
unfolding first_value
first_moves [] = nothing 2
first_moves (v ∷ values) = value_moves 2 v

no_flags : Moves 2 0 (flags_of (property [] (codes "overflowFlags")))
unfolding flags_of property
no_flags = nothing 2

sum_moves : (left right : ℕ) (place : Place)
    → NodeMoves 2 (node (codes "arith.addi") place (left ∷ right ∷ []) (next_name place) (type_at place left ∷ []) [] [] [])
unfolding node own_form names forms before_regions behind_seen
sum_moves left right place =
    let operand = λ (n m : ℕ). first_moves (take n (drop m (map (name_at place) (left ∷ right ∷ [])))) in
    row_moves 2 _ _ refl
    (operand, (operand, ((λ n m. no_flags), ((λ n m. widen 2 (first_type_moves (type_at place left) _) (omega arith)), tt)))) (λ depth. tt) tt

map_there : (m : MapText) → lines.map_of (property (map_entry (codes "map") m ∷ []) (codes "map")) ≡ Some m
map_there m = ap lines.map_of (property-first (codes "map") (codes "map") (attr.Map m) []) ∙ map-only m

-- a buffer by subscripts
buffer_moves : (at : Subscript) (values : List (List ℕ))
    → Moves 2 0 (lines.buffer (lines.map_of (property (map_entry (codes "map") (subscript_map at) ∷ []) (codes "map"))) values)
unfolding lines.buffer lines.subscripts_if_any
buffer_moves at [] = nothing 2
buffer_moves at (first ∷ others) =
    moves_as (lines.buffer (lines.map_of (property (map_entry (codes "map") (subscript_map at) ∷ []) (codes "map"))) (first ∷ others))
    (ap (λ (m : Option MapText). value first ++ lines.subscripts_if_any m others) (map_there (subscript_map at)))
    (with (value_moves 2 first) (subscripts_moves at others) (omega arith))

marked : (number : ℕ) → Moves 2 0 (lines.marks_behind (mark (codes "affvec.of") number))
marked number = widen 2 (mark_moves (codes "affvec.of") number) (omega arith)

load_moves : (from counter : ℕ) (at : Subscript) (place : Place)
    → NodeMoves 2 (node (codes "affine.load") place (from ∷ subscript_values counter at) (next_name place) (element ∷ [])
    (map_entry (codes "map") (subscript_map at) ∷ []) (mark (codes "affvec.of") place.number) [])
unfolding node own_form names forms before_regions behind_seen
load_moves from counter at place =
    row_moves 2 _ _ refl
    ((λ n m. buffer_moves at _), ((λ n m. marked place.number), ((λ n m. widen 2 (first_type_moves (type_at place from) _) (omega arith)), tt)))
    (λ depth. tt) tt

store_moves : (stored into counter : ℕ) (at : Subscript) (place : Place)
    → NodeMoves 2 (node (codes "affine.store") place (stored ∷ into ∷ subscript_values counter at) [] []
    (map_entry (codes "map") (subscript_map at) ∷ []) (mark (codes "affvec.of") place.number) [])
unfolding node own_form names forms before_regions behind_seen
store_moves stored into counter at place =
    row_moves 2 _ _ refl (
      (λ n m. first_moves _),
      (
        (λ n m. buffer_moves at _),
        ((λ n m. marked place.number), ((λ n m. widen 2 (first_type_moves (type_at place into) _) (omega arith)), tt)),
      ),
    )
    (λ depth. tt) tt

program_line_moves : (counter : ℕ) (line : Line) (place : Place) → NodeMoves 2 (line_node counter line place)
unfolding line_node
program_line_moves counter (constant pattern) place = constant_moves pattern place
program_line_moves counter (sum left right) place = sum_moves left right place
program_line_moves counter (load from at) place = load_moves from counter at place
program_line_moves counter (store stored into at) place = store_moves stored into counter at place

-- the end of a region, without values
no_values_moves : (k : ℕ) → Moves k 0 (lines.values_behind [] [])
unfolding lines.values_behind
no_values_moves k = nothing k

yield_moves : (place : Place) → NodeMoves 2 (end_node (codes "affine.yield") place)
unfolding end_node node own_form names forms before_regions behind_seen
yield_moves place = row_moves 2 _ _ refl (without_operands (λ vs. lines.values_behind vs []) (no_values_moves 2), tt) (λ depth. tt) tt

lines_move : (counter : ℕ) (several : List Line) (place : Place) → NodesMove 2 (line_nodes counter several place)
unfolding line_nodes
lines_move counter [] place = (yield_moves place, tt)
lines_move counter (line ∷ several) place = (program_line_moves counter line place, lines_move counter several (after_line line place))

-- ---- loops
abbrev by_one : Attr
by_one = attr.Number (pos 1) (text.Scalar (codes "index"))

abbrev segments : Attr
segments = attr.Array (text.Scalar (codes "i32")) (pos 0 ∷ pos 0 ∷ pos 0 ∷ [])

lower_there : (lower upper : ℤ) → property (loop_properties lower upper) (codes "lowerBoundMap") ≡ Some (attr.Map (bound_map lower))
lower_there lower upper =
    let last = map_entry (codes "upperBoundMap") (bound_map upper) ∷ [] in
    let maps = map_entry (codes "lowerBoundMap") (bound_map lower) ∷ last in
    property-first (codes "operandSegmentSizes") (codes "lowerBoundMap") segments (entry (codes "step") by_one ∷ maps)
    ∙ property-first (codes "step") (codes "lowerBoundMap") by_one maps
    ∙ property-first (codes "lowerBoundMap") (codes "lowerBoundMap") (attr.Map (bound_map lower)) last

upper_there : (lower upper : ℤ) → property (loop_properties lower upper) (codes "upperBoundMap") ≡ Some (attr.Map (bound_map upper))
upper_there lower upper =
    let last = map_entry (codes "upperBoundMap") (bound_map upper) ∷ [] in
    let maps = map_entry (codes "lowerBoundMap") (bound_map lower) ∷ last in
    property-first (codes "operandSegmentSizes") (codes "upperBoundMap") segments (entry (codes "step") by_one ∷ maps)
    ∙ property-first (codes "step") (codes "upperBoundMap") by_one maps
    ∙ property-first (codes "lowerBoundMap") (codes "upperBoundMap") (attr.Map (bound_map lower)) last
    ∙ property-first (codes "upperBoundMap") (codes "upperBoundMap") (attr.Map (bound_map upper)) []

variable_moves : (args : List BodyArg) → Moves 3 0 (lines.variable args)
unfolding lines.variable
variable_moves [] = nothing 3
variable_moves (a ∷ args) = one 3 kinds.ValId a.name refl

step_moves : (z : ℤ) → Moves 3 0 (lines.step_behind z)
unfolding lines.step_behind
step_moves z =
    either (Moves 3 0) (int_eq z (pos 1)) [] (space ++ plain (codes "step") ++ space ++ number z) (λ b. nothing 3)
    (λ b. with (with (with (space_moves 3) (plain_moves 0 (codes "step")) (omega arith)) (space_moves 0) (omega arith)) (number_moves 0 z) (omega arith))

carried_none : (args : List BodyArg) (types : List (Option TypeText)) (n m : ℕ) → Moves 3 0 (lines.carried_behind args (take n (drop m [])) types)
unfolding lines.carried_behind
carried_none args types = without_operands (λ vs. lines.carried_behind args vs types) (nothing 3)

bound_there : (lower : Bool) (z : ℤ) (o : Option Attr) → o ≡ Some (attr.Map (bound_map z)) → Moves 3 0 (bound_of lower o [])
bound_there lower z o is = moves_as (bound_of lower o []) (ap (λ (o : Option Attr). bound_of lower o []) is) (widen 3 (bound_moves lower z) (omega arith))

loop_moves : (lower upper : ℤ) (args : List BodyArg) (nodes : List Node) (place : Place) → NodesMove 2 nodes
    → NodeMoves 3 (node (codes "affine.for") place [] [] [] (loop_properties lower upper) (mark (codes "affvec.loop") place.loops)
    (roll-Body (record { args = args; nodes = nodes }) ∷ []))
unfolding node own_form names forms before_regions behind_seen
loop_moves lower upper args nodes place h =
    row_moves 3 _ _ refl (
      (λ n m. variable_moves _),
      (
        without_operands (bound_of true (property (loop_properties lower upper) (codes "lowerBoundMap"))) (bound_there true lower _ (lower_there lower upper)),
        (
          without_operands (bound_of false (property (loop_properties lower upper) (codes "upperBoundMap"))) (bound_there false upper _ (upper_there lower upper)),
          ((λ n m. step_moves _), (carried_none _ _, tt)),
        ),
      ),
    )
    (one_body 2 args nodes h)
    ((λ n m. widen 3 (mark_moves (codes "affvec.loop") place.loops) (omega arith)), tt)

-- ---- steps
deeper : (n : Node) → NodeMoves 2 n → NodeMoves 3 n
deeper n h depth = widen 3 (h depth) (omega arith)

step_node_moves : (step : Step) (place : Place) → NodeMoves 3 (step_node step place)
unfolding step_node loop_body
step_node_moves (single pattern) place = deeper (constant_node pattern place) (constant_moves pattern place)
step_node_moves (counted lower upper several) place =
    loop_moves lower upper (argument (argument_name place.arguments) (Scalar Index) ∷ []) (line_nodes (length place.types) several (inside place)) place
    (lines_move (length place.types) several (inside place))

return_moves : (place : Place) → NodeMoves 3 (end_node (codes "func.return") place)
unfolding end_node node own_form names forms before_regions behind_seen
return_moves place = row_moves 3 _ _ refl (without_operands (λ vs. lines.values_behind vs []) (no_values_moves 3), tt) (λ depth. tt) tt

steps_move : (steps : List Step) (place : Place) → NodesMove 3 (step_nodes steps place)
unfolding step_nodes
steps_move [] place = (return_moves place, tt)
steps_move (step ∷ steps) place = (step_node_moves step place, steps_move steps (after_step step place))

-- ---- the function and the module
pub arguments_each : (k : ℕ) (sizes : List ℕ) → Each 1 (map lines.argument (arguments k sizes))
unfolding arguments
arguments_each k [] = tt
arguments_each k (size ∷ sizes) = (argument_moves (argument_name k) (buffer size), arguments_each (k + 1) sizes)

arguments_moves : (k : ℕ) (sizes : List ℕ) → Moves 2 0 (lines.arguments_pieces (arguments k sizes))
unfolding lines.arguments_pieces
arguments_moves k sizes = round (commas_moves 1 (map lines.argument (arguments k sizes)) (arguments_each k sizes))

results-none : (inputs : List TypeText) → lines.results_of (Some (attr.Type (text.Func inputs []))) ≡ []
unfolding lines.results_of lines.results_of_type
results-none inputs =
    ap lines.results_in (ap out-Attr (sym (attr.rolls-Type (text.Func inputs []))) ∙ out-roll-Attr (open_attr.Type (text.Func inputs [])))
    ∙ ap lines.results_in_type (ap out-TypeText (sym (text.rolls-Func inputs [])) ∙ out-roll-TypeText (open_type.Func inputs []))

no_results : (p : Program) → lines.results_of (property (function_properties p) (codes "function_type")) ≡ []
no_results p =
    let inputs : List TypeText = map (λ size. type_of (buffer size)) p.sizes in
    ap lines.results_of
    (property-first (codes "function_type") (codes "function_type") (attr.Type (text.Func inputs [])) (entry (codes "sym_name") (attr.Quoted p.name) ∷ []))
    ∙ results-none inputs

name_moves : (name : List ℕ) → Moves 4 0 (lines.function_name name)
unfolding lines.function_name
name_moves name =
    with (with (plain_moves 4 (codes "func.func")) (space_moves 0) (omega arith)) (one 0 kinds.SymId (codes "@" ++ name) refl) (omega arith)

no_results_moves : Moves 0 0 (lines.results_behind [])
unfolding lines.results_behind
no_results_moves = nothing 0

no_attributes_moves : Moves 0 0 (lines.attributes_word [])
unfolding lines.attributes_word
no_attributes_moves = nothing 0

no_marks_moves : Moves 0 0 (lines.marks_behind [])
unfolding lines.marks_behind
no_marks_moves = nothing 0

function_line_moves : (p : Program) (h : Head) → h.attrs ≡ [] → h.properties ≡ function_properties p → h.arguments ≡ arguments 0 p.sizes
    → Moves 4 0 (lines.function_line h)
unfolding lines.function_line
function_line_moves p h none is args =
    let name : List ℕ = lines.text_of (property h.properties (codes "sym_name")) in
    let spell = λ (given : List BodyArg) (rs : List TypeText) (ms : List Named).
    lines.function_name name ++ lines.arguments_pieces given ++ lines.results_behind rs ++ lines.attributes_word ms ++ lines.marks_behind ms in
    let results : List TypeText = lines.results_of (property h.properties (codes "function_type")) in
    moves_as (lines.function_line h)
    (ap (λ (given : List BodyArg). spell given results h.attrs) args
    ∙ ap (λ (rs : List TypeText). spell (arguments 0 p.sizes) rs h.attrs)
    (ap (λ (ps : List Named). lines.results_of (property ps (codes "function_type"))) is ∙ no_results p)
    ∙ ap (λ (ms : List Named). spell (arguments 0 p.sizes) [] ms) none)
    (with (with (with (with (name_moves name) (arguments_moves 0 p.sizes) (omega arith)) no_results_moves (omega arith)) no_attributes_moves (omega arith))
    no_marks_moves (omega arith))

function_moves : (p : Program) → NodeMoves 4 (function_node p)
unfolding outer_node own_form
function_moves p =
    let inner : Body-F Body Node = record { args = arguments 0 p.sizes; nodes = step_nodes p.steps (body_place p) } in
    node_moves 4 _ own.Function refl
    (function_line_moves p _ refl refl (ap (λ (b : Body-F Body Node). b.args) (out-roll-Body inner)))
    (one_body 3 (arguments 0 p.sizes) (step_nodes p.steps (body_place p)) (steps_move p.steps (body_place p))) (nothing 4)

module_moves : (p : Program) → NodeMoves 5 (written_tree p).root
unfolding outer_node own_form
module_moves p =
    node_moves 5 _ own.Module refl (plain_moves 5 (codes "module")) (one_body 4 [] (function_node p ∷ []) (function_moves p, tt)) (nothing 5)

-- with operations in forms of their own
pub brackets_named : (p : Program) → WithinBrackets 192 0 (classes_in (pieces_of printing.Named (written_tree p).root))
brackets_named p =
    whole_within 5 ((operation_of (written_tree p).root).whole printing.Named 0 ++ new_line 0) (omega arith)
    (with (module_moves p 0) (new_line_moves 0 0) (omega arith))
