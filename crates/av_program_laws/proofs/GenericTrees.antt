-- The brackets of the trees that are printed for programs in generic form.
use Rattle.std.proofs.Common.{◌≡◌, ℕ, ◌+◌, ◌≤◌, List, [], ◌∷◌, ◌++◌, map, length, refl, ◌∙◌, ap, arith, codes}
use Rattle.std.specs.Prelude.{ℤ, pos}
use Rattle.av_lex.specs.declared.token.Sign.TheVariants.{OpenCurly, CloseCurly}
use Rattle.av_bits.specs.declared.types.Width.TheVariants.{W32}
use Rattle.av_ir.specs.declared.ty.Elem.TheVariants.{Index}
use Rattle.av_ir.specs.declared.ty.Ty.{Ty}
use Rattle.av_ir.specs.declared.ty.Ty.TheVariants.{Scalar}
use Rattle.av_tree.specs.declared.attribute.Named.{Named}
use Rattle.av_tree.specs.declared.node.Node.{Node, Node-F, roll-Node, out-roll-Node}
use Rattle.av_tree.specs.declared.node.Body.{Body, Body-F, roll-Body, out-roll-Body}
use Rattle.av_tree.specs.declared.node.BodyArg.{BodyArg}
use Rattle.av_printer.specs.declared.form.Form.TheVariants as forms
use Rattle.av_printer.specs.Pieces.{Piece, new_line, sign, joined}
use Rattle.av_printer.specs.Operations as lines
use Rattle.av_printer.specs.Spelling.{label, common_regions, operation_of, node_line, common_body}
use Rattle.av_printer.proofs.NodeSteps.{whole-common, common-of}
use Rattle.av_totree.specs.Names.{argument_name}
use Rattle.av_totree.specs.Constants.{signed_low}
use Rattle.av_program_laws.specs.Programs.{Line, constant, sum, load, store, Step, single, counted, Program}
use Rattle.av_program_laws.specs.Walks.{Place, element, buffer, type_at, after_line, inside, after_step, body_place}
use Rattle.av_program_laws.specs.Modules.{subscript_values}
use Rattle.av_program_laws.specs.WrittenTrees.{entry, mark, next_name, constant_attr, constant_node, map_entry, subscript_map, node, outer_node, line_node, end_node, line_nodes, argument, loop_properties, loop_body, step_node, step_nodes, arguments, function_properties, function_node, written_tree}
use Rattle.av_program_laws.specs.PrintedLaws.{BracketsLaw}
use Rattle.av_program_laws.proofs.Balance.{Moves, whole_within, with, widen, open_one, closing, new_line_moves, Each, joined_moves, moves_as}
use Rattle.av_program_laws.proofs.BalanceOfParts.{results_moves, argument_moves}
use Rattle.av_program_laws.proofs.BalanceOfTrees.{head_in, on_line_moves, arguments_each, brackets_named}
use Rattle.av_program_laws.proofs.GenericParts.{EntriesMove, number_entry_moves, bound_entry_moves, subscript_entry_moves, array_entry_moves, quoted_entry_moves, TypesMove, types_move, func_entry_moves, common_line_moves, common_end_moves, label_moves, common_regions_moves}

-- ---- one level of a node
abbrev level : ℕ → Node-F Body Node → List Piece
level depth x =
    lines.results_before x.results
    ++ (lines.common_line (head_in x) ++ common_regions (map (common_body depth) x.regions) ++ lines.common_end (head_in x))

level-is : (x : Node-F Body Node) (depth : ℕ) → (operation_of (roll-Node x)).whole forms.Generic depth ≡ level depth x
level-is x depth = whole-common (roll-Node x) forms.Generic depth refl ∙ ap (level depth) (out-roll-Node x)

-- an operation moves so at each depth
abbrev NodeMoves : ℕ → Node → Type 0
NodeMoves k n = (depth : ℕ) → Moves k 0 ((operation_of n).whole forms.Generic depth)

abbrev NodesMove : ℕ → List Node → Type 0
NodesMove k [] = Unit {0}
NodesMove k (n ∷ ns) = NodeMoves k n × NodesMove k ns

abbrev BodiesMove : ℕ → List Body → Type 0
BodiesMove k bodies = (depth : ℕ) → Each k (map (common_body depth) bodies)

-- around regions that move so
level_moves : (k : ℕ) (x : Node-F Body Node) → EntriesMove 3 x.properties → EntriesMove 3 x.attrs → TypesMove x.in_types → TypesMove x.out_types
    → BodiesMove k x.regions → 4 ≤ k → NodeMoves (k + 1) (roll-Node x)
level_moves k x says marked takes gives bodies low depth =
    moves_as ((operation_of (roll-Node x)).whole forms.Generic depth) (level-is x depth)
    (with (results_moves (k + 1) x.results)
    (with
    (with (widen (k + 1) (common_line_moves 3 (head_in x) says) (omega (arith, low))) (common_regions_moves k (map (common_body depth) x.regions) (bodies depth)) (omega arith))
    (common_end_moves 3 (head_in x) marked takes gives) (omega (arith, low)))
    (omega arith))

module _ (name : List ℕ) (place : Place) (operands : List ℕ) (results : List (List ℕ)) (types : List Ty) (properties marks : List Named) where
  node_moves : (k : ℕ) (regions : List Body) → EntriesMove 3 properties → EntriesMove 3 marks → BodiesMove k regions → 4 ≤ k
      → NodeMoves (k + 1) (node name place operands results types properties marks regions)
  unfolding node
  node_moves k regions says marked bodies low =
      level_moves k _ says marked (types_move (type_at place) operands) (types_move (λ (ty : Ty). ty) types) bodies low

  plain_node_moves : EntriesMove 3 properties → EntriesMove 3 marks → NodeMoves 5 (node name place operands results types properties marks [])
  plain_node_moves says marked = node_moves 4 [] says marked (λ depth. tt) (omega arith)

outer_moves : (k : ℕ) (name : List ℕ) (properties : List Named) (body : Body) → EntriesMove 3 properties → BodiesMove k (body ∷ []) → 4 ≤ k
    → NodeMoves (k + 1) (outer_node name properties body)
unfolding outer_node
outer_moves k name properties body says bodies low = level_moves k _ says tt tt tt bodies low

-- ---- regions
lines_each : (k depth : ℕ) (ns : List Node) → NodesMove k ns → Each k (map (node_line forms.Generic depth) ns)
lines_each k depth [] h = tt
lines_each k depth (n ∷ ns) h = (on_line_moves forms.Generic k depth (operation_of n) (h.0 depth), lines_each k depth ns h.1)

module _ (k : ℕ) (args : List BodyArg) (nodes : List Node) where
  abbrev within_body : Body-F Body Node
  within_body = record { args = args; nodes = nodes }

  abbrev region_at : ℕ → Body-F Body Node → List Piece
  region_at depth b = sign OpenCurly ++ label depth b.args ++ joined (map (node_line forms.Generic (depth + 1)) b.nodes) ++ new_line depth ++ sign CloseCurly

  body_moves : (depth : ℕ) → Each 1 (map lines.argument args) → NodesMove k nodes → 2 ≤ k → Moves (k + 1) 0 (common_body depth (roll-Body within_body))
  body_moves depth named h low =
      moves_as (common_body depth (roll-Body within_body))
      (common-of depth (roll-Body within_body) ∙ ap (region_at depth) (out-roll-Body within_body))
      (closing CloseCurly
      (with
      (with
      (with (open_one (k + 1) OpenCurly refl (omega arith)) (label_moves depth args named) (omega (arith, low)))
      (joined_moves k (map (node_line forms.Generic (depth + 1)) nodes) (lines_each k (depth + 1) nodes h)) (omega arith))
      (new_line_moves 0 depth) (omega arith))
      refl (omega arith) (omega arith))

  one_body : Each 1 (map lines.argument args) → NodesMove k nodes → 2 ≤ k → BodiesMove (k + 1) (roll-Body within_body ∷ [])
  one_body named h low depth = (body_moves depth named h low, tt)

-- ---- lines in a loop
constant_moves : (pattern : ℕ) (place : Place) → NodeMoves 5 (constant_node pattern place)
unfolding constant_node
constant_moves pattern place =
    plain_node_moves (codes "arith.constant") place [] (next_name place) (element ∷ []) (entry (codes "value") (constant_attr pattern) ∷ []) []
    (number_entry_moves (codes "value") (codes "i32") (signed_low W32 pattern), tt) tt

mark_entry_moves : (name : List ℕ) (n : ℕ) → EntriesMove 3 (mark name n)
mark_entry_moves name n = (number_entry_moves name (codes "i64") (pos n), tt)

line_moves : (counter : ℕ) (line : Line) (place : Place) → NodeMoves 5 (line_node counter line place)
unfolding line_node
line_moves counter (constant pattern) place = constant_moves pattern place
line_moves counter (sum left right) place =
    plain_node_moves (codes "arith.addi") place (left ∷ right ∷ []) (next_name place) (type_at place left ∷ []) [] [] tt tt
line_moves counter (load from at) place =
    plain_node_moves (codes "affine.load") place (from ∷ subscript_values counter at) (next_name place) (element ∷ [])
    (map_entry (codes "map") (subscript_map at) ∷ []) (mark (codes "affvec.of") place.number)
    (subscript_entry_moves (codes "map") at, tt) (mark_entry_moves (codes "affvec.of") place.number)
line_moves counter (store stored into at) place =
    plain_node_moves (codes "affine.store") place (stored ∷ into ∷ subscript_values counter at) [] []
    (map_entry (codes "map") (subscript_map at) ∷ []) (mark (codes "affvec.of") place.number)
    (subscript_entry_moves (codes "map") at, tt) (mark_entry_moves (codes "affvec.of") place.number)

end_moves : (name : List ℕ) (place : Place) → NodeMoves 5 (end_node name place)
unfolding end_node
end_moves name place = plain_node_moves name place [] [] [] [] [] tt tt

lines_move : (counter : ℕ) (several : List Line) (place : Place) → NodesMove 5 (line_nodes counter several place)
unfolding line_nodes
lines_move counter [] place = (end_moves (codes "affine.yield") place, tt)
lines_move counter (line ∷ several) place = (line_moves counter line place, lines_move counter several (after_line line place))

-- ---- steps
loop_says : (lower upper : ℤ) → EntriesMove 3 (loop_properties lower upper)
loop_says lower upper = (
  array_entry_moves (codes "operandSegmentSizes") (codes "i32") (pos 0) (pos 0 ∷ pos 0 ∷ []),
  (
    number_entry_moves (codes "step") (codes "index") (pos 1),
    (bound_entry_moves (codes "lowerBoundMap") lower, (bound_entry_moves (codes "upperBoundMap") upper, tt)),
  ),
)

deeper : (n : Node) → NodeMoves 5 n → NodeMoves 7 n
deeper n h depth = widen 7 (h depth) (omega arith)

step_moves : (step : Step) (place : Place) → NodeMoves 7 (step_node step place)
unfolding step_node loop_body
step_moves (single pattern) place = deeper (constant_node pattern place) (constant_moves pattern place)
step_moves (counted lower upper several) place =
    let arg : BodyArg = argument (argument_name place.arguments) (Scalar Index) in
    let nodes : List Node = line_nodes (length place.types) several (inside place) in
    node_moves (codes "affine.for") place [] [] [] (loop_properties lower upper) (mark (codes "affvec.loop") place.loops) 6
    (roll-Body (record { args = arg ∷ []; nodes = nodes }) ∷ []) (loop_says lower upper) (mark_entry_moves (codes "affvec.loop") place.loops)
    (one_body 5 (arg ∷ []) nodes (argument_moves (argument_name place.arguments) (Scalar Index), tt) (lines_move (length place.types) several (inside place)) (omega arith))
    (omega arith)

steps_move : (steps : List Step) (place : Place) → NodesMove 7 (step_nodes steps place)
unfolding step_nodes
steps_move [] place = (deeper (end_node (codes "func.return") place) (end_moves (codes "func.return") place), tt)
steps_move (step ∷ steps) place = (step_moves step place, steps_move steps (after_step step place))

-- ---- the function and the module
function_says : (p : Program) → EntriesMove 3 (function_properties p)
function_says p = (func_entry_moves (codes "function_type") buffer p.sizes, (quoted_entry_moves (codes "sym_name") p.name, tt))

function_moves : (p : Program) → NodeMoves 9 (function_node p)
function_moves p =
    outer_moves 8 (codes "func.func") (function_properties p) _ (function_says p)
    (one_body 7 (arguments 0 p.sizes) (step_nodes p.steps (body_place p)) (arguments_each 0 p.sizes) (steps_move p.steps (body_place p)) (omega arith)) (omega arith)

module_moves : (p : Program) → NodeMoves 11 (written_tree p).root
module_moves p =
    outer_moves 10 (codes "builtin.module") [] _ tt (one_body 9 [] (function_node p ∷ []) tt (function_moves p, tt) (omega arith)) (omega arith)

pub brackets : BracketsLaw
brackets forms.Named p = brackets_named p
brackets forms.Generic p =
    whole_within 11 ((operation_of (written_tree p).root).whole forms.Generic 0 ++ new_line 0) (omega arith)
    (with (module_moves p 0) (new_line_moves 0 0) (omega arith))
