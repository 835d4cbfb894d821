-- The nodes that are made of the steps of a function.
use Rattle.std.proofs.Common.{◌≡◌, ap, ◌∙◌, refl, ℕ, ◌+◌, ◌<◌, List, [], ◌∷◌, ◌++◌, map, append_assoc, arith}
use Rattle.std.specs.Prelude.{ℤ, pos, codes}
use Rattle.av_ir.specs.declared.ty.Elem.TheVariants.{Index}
use Rattle.av_ir.specs.declared.ty.Ty.{Ty}
use Rattle.av_ir.specs.declared.ty.Ty.TheVariants.{Scalar}
use Rattle.av_ir.specs.declared.module.ValueId.{ValueId}
use Rattle.av_ir.specs.declared.module.Op.{Op}
use Rattle.av_ir.specs.declared.module.OpKind.TheVariants.{FuncReturn, AffineFor}
use Rattle.av_ir.specs.declared.module.Region.{fold-roll-Region, roll-Region}
use Rattle.av_tree.specs.declared.attribute.Attr.TheVariants as attr
use Rattle.av_tree.specs.declared.attribute.Named.{Named}
use Rattle.av_tree.specs.declared.node.Node.{Node}
use Rattle.av_tree.specs.declared.node.Body.{Body, roll-Body}
use Rattle.av_tree.specs.declared.node.BodyArg.{BodyArg}
use Rattle.av_tree.specs.declared.written.MapText.{MapText}
use Rattle.av_tree.specs.declared.written.TypeText.TheVariants as text
use Rattle.av_totree.specs.Maps.{map_of}
use Rattle.av_totree.specs.Names.{Naming, argument_name}
use Rattle.av_totree.specs.Properties.{properties_of}
use Rattle.av_totree.specs.Names as names
use Rattle.av_totree.specs.Trees.{Made, Making, in_turn, make_argument, make_node, make_body, node_of, body_of, argument_type}
use Rattle.av_program_laws.specs.Programs.{Line, Step, single, counted}
use Rattle.av_program_laws.specs.Walks.{Place, element, next, with_argument, after_lines, inside, after_step, after_steps}
use Rattle.av_program_laws.specs.Modules.{value, op, no_marks, loop_mark, line_ops, loop_region, step_op, step_ops}
use Rattle.av_program_laws.specs.Modules as modules
use Rattle.av_program_laws.specs.WrittenTrees.{node, entry, number_of, bound_map, argument, loop_properties, mark, line_nodes, loop_body, step_node, end_node, step_nodes}
use Rattle.av_program_laws.specs.Sound.{IsSoundStep, AreSoundSteps, visible_behind, AreSoundLines}
use Rattle.av_program_laws.proofs.Ahead.{naming_at, IsNamed, type_of_argument, argument_named, passed_named, IsNamed-result, IsNamed-argument, IsNamed-passed, types-result, types-argument, types-passed, next-argument}
use Rattle.av_program_laws.proofs.MadeOps.{bound_text, made_op, flat_is}
use Rattle.av_program_laws.proofs.MadeLines.{made_constant, made_end, lines_types, made_first, made_none, made_lines, IsNamed-lines, types-lines}

-- ---- regions
pub made_region : (T : List Ty) (args : List ValueId) (ops : List Op) (naming between behind : Naming) (made_args : List BodyArg) (nodes : List Node)
    → in_turn (map (make_argument T) args) naming ≡ record { made = made_args; naming = between }
    → in_turn (map (node_of T) ops) between ≡ record { made = nodes; naming = behind }
    → body_of T (roll-Region (record { args = args; ops = ops })) naming
    ≡ record { made = roll-Body (record { args = made_args; nodes = nodes }); naming = behind }
unfolding node_of body_of
made_region T args ops naming between behind made_args nodes first more =
    ap (λ (making : Making Body). making naming)
    (fold-roll-Region (Making Node) (Making Body) (make_node T) (make_body T) (record { args = args; ops = ops }))
    ∙ ap (λ (made : Made (List BodyArg)). let ops = in_turn (map (node_of T) ops) made.naming in
    record { made = roll-Body (record { args = made.made; nodes = ops.made }); naming = ops.naming }) first
    ∙ ap (λ (made : Made (List Node)). record { made = roll-Body (record { args = made_args; nodes = made.made }); naming = made.naming }) more

-- an argument, and those behind it
pub made_argument : (T rest : List Ty) (ty : Ty) (place : Place) → IsNamed place → T ≡ place.types ++ ty ∷ rest
    → make_argument T (value (next place)) (naming_at (ty ∷ rest) place)
    ≡ record { made = argument (argument_name place.arguments) ty; naming = naming_at rest (with_argument ty place) }
made_argument T rest ty place named is =
    ap (λ type. record {
      made = record { name = argument_name place.arguments; ty = type };
      naming = names.with_argument (value (next place)) (naming_at (ty ∷ rest) place);
    }) (ap (λ t. argument_type t (value (next place))) is ∙ type_of_argument ty rest place)
    ∙ ap (λ naming. record { made = argument (argument_name place.arguments) ty; naming = naming }) (argument_named ty rest place named)

-- ---- loops

module _ (T rest : List Ty) (lines : List Line) (place : Place) where
  abbrev inner : List Ty
  inner = lines_types lines (inside place) ++ rest

  made_loop_region : (visible : List ℕ) → IsNamed place → T ≡ place.types ++ Scalar Index ∷ inner
      → AreSoundLines visible (inside place) lines
      → body_of T (loop_region lines place) (naming_at (Scalar Index ∷ inner) place)
      ≡ record { made = loop_body (line_nodes (next place) lines (inside place)) place; naming = naming_at rest (after_lines lines (inside place)) }
  unfolding loop_region loop_body inside
  made_loop_region visible named is sound =
      let begun : Place = record place { number = place.number + 1; loops = place.loops + 1 } in
      let here : T ≡ (inside place).types ++ inner = is ∙ types-argument (Scalar Index) inner begun in
      let below : next place < next (inside place) = omega (arith, next-argument (Scalar Index) begun) in
      made_region T (value (next place) ∷ []) (line_ops (next place) lines (inside place)) (naming_at (Scalar Index ∷ inner) place)
      (naming_at inner (inside place)) (naming_at rest (after_lines lines (inside place))) (argument (argument_name place.arguments) (Scalar Index) ∷ [])
      (line_nodes (next place) lines (inside place))
      (made_first (make_argument T) (value (next place)) [] (naming_at (Scalar Index ∷ inner) place) (naming_at inner (inside place)) (naming_at inner (inside place))
      (argument (argument_name place.arguments) (Scalar Index)) [] (made_argument T inner (Scalar Index) begun named is) (made_none (make_argument T) (naming_at inner (inside place))))
      (made_lines T rest (next place) lines (inside place) visible (IsNamed-argument (Scalar Index) begun named) below sound here)

abbrev counts : Named
counts = entry (codes "operandSegmentSizes") (attr.Array (text.Scalar (codes "i32")) (pos 0 ∷ pos 0 ∷ pos 0 ∷ []))

abbrev by_one : Named
by_one = entry (codes "step") (number_of (codes "index") (pos 1))

abbrev with_bounds : MapText → MapText → List Named
with_bounds lower upper = counts ∷ by_one ∷ entry (codes "lowerBoundMap") (attr.Map lower) ∷ entry (codes "upperBoundMap") (attr.Map upper) ∷ []

loop_texts : (T : List Ty) (lower upper : ℤ)
    → properties_of T (AffineFor (modules.bound_map lower) (modules.bound_map upper) 1) 0 [] ≡ loop_properties lower upper
loop_texts T lower upper =
    ap (λ l. with_bounds l (map_of (modules.bound_map upper))) (bound_text lower) ∙ ap (with_bounds (bound_map lower)) (bound_text upper)

-- ---- steps
abbrev pub step_types : Step → Place → List Ty
step_types (single pattern) place = element ∷ []
step_types (counted lower upper lines) place = Scalar Index ∷ lines_types lines (inside place)

abbrev pub steps_types : List Step → Place → List Ty
steps_types [] place = []
steps_types (step ∷ steps) place = step_types step place ++ steps_types steps (after_step step place)

pub made_step : (T rest : List Ty) (step : Step) (place : Place) (visible : List ℕ) → IsNamed place → IsSoundStep visible place step
    → T ≡ place.types ++ (step_types step place ++ rest)
    → node_of T (step_op step place) (naming_at (step_types step place ++ rest) place)
    ≡ record { made = step_node step place; naming = naming_at rest (after_step step place) }
unfolding step_op step_node after_step IsSoundStep
made_step T rest (single pattern) place visible named sound is = made_constant T rest pattern place named is
made_step T rest (counted lower upper lines) place visible named sound is =
    let kind = AffineFor (modules.bound_map lower) (modules.bound_map upper) 1 in
    let ahead : List Ty = Scalar Index ∷ inner T rest lines place in
    let body : Body = loop_body (line_nodes (next place) lines (inside place)) place in
    made_op T place.number kind [] [] (loop_mark place.loops) (naming_at ahead place) (loop_region lines place ∷ []) (body ∷ [])
    (naming_at rest (after_lines lines (inside place)))
    (made_first (body_of T) (loop_region lines place) [] (naming_at ahead place) (naming_at rest (after_lines lines (inside place)))
    (naming_at rest (after_lines lines (inside place))) body [] (made_loop_region T rest lines place _ named is sound.2)
    (made_none (body_of T) (naming_at rest (after_lines lines (inside place)))))
    ∙ ap (λ (made : Node). record { made = made; naming = naming_at rest (after_lines lines (inside place)) })
    (flat_is T ahead place.number kind [] [] (loop_mark place.loops) place is named tt [] (loop_properties lower upper) (body ∷ []) refl (loop_texts T lower upper))
    ∙ ap (λ naming. record {
      made = node (codes "affine.for") place [] [] [] (loop_properties lower upper) (mark (codes "affvec.loop") place.loops) (body ∷ []);
      naming = naming;
    }) (passed_named rest (after_lines lines (inside place)))

pub IsNamed-step : (step : Step) (place : Place) → IsNamed place → IsNamed (after_step step place)
unfolding after_step inside
IsNamed-step (single pattern) place named = IsNamed-result element place named
IsNamed-step (counted lower upper lines) place named =
    let begun : Place = record place { number = place.number + 1; loops = place.loops + 1 } in
    IsNamed-passed (after_lines lines (inside place)) (IsNamed-lines lines (inside place) (IsNamed-argument (Scalar Index) begun named))

pub types-step : (rest : List Ty) (step : Step) (place : Place) → place.types ++ (step_types step place ++ rest) ≡ (after_step step place).types ++ rest
unfolding after_step inside
types-step rest (single pattern) place = types-result element rest place
types-step rest (counted lower upper lines) place =
    let begun : Place = record place { number = place.number + 1; loops = place.loops + 1 } in
    types-argument (Scalar Index) (lines_types lines (inside place) ++ rest) begun
    ∙ types-lines rest lines (inside place)
    ∙ types-passed rest (after_lines lines (inside place))

pub made_steps : (T rest : List Ty) (steps : List Step) (place : Place) (visible : List ℕ) → IsNamed place → AreSoundSteps visible place steps
    → T ≡ place.types ++ (steps_types steps place ++ rest)
    → in_turn (map (node_of T) (step_ops steps place)) (naming_at (steps_types steps place ++ rest) place)
    ≡ record { made = step_nodes steps place; naming = naming_at rest (after_steps steps place) }
unfolding step_ops step_nodes after_steps AreSoundSteps
made_steps T rest [] place visible named sound is =
    made_first (node_of T) (op place.number FuncReturn [] [] [] no_marks) [] (naming_at rest place) (naming_at rest place) (naming_at rest place)
    (end_node (codes "func.return") place) [] (made_end T rest FuncReturn place named is refl) (made_none (node_of T) (naming_at rest place))
made_steps T rest (step ∷ steps) place visible named sound is =
    let more = steps_types steps (after_step step place) ++ rest in
    let regroup = append_assoc (step_types step place) (steps_types steps (after_step step place)) rest in
    let here : T ≡ place.types ++ (step_types step place ++ more) = is ∙ ap (λ types. place.types ++ types) regroup in
    let behind : T ≡ (after_step step place).types ++ more = here ∙ types-step more step place in
    ap (λ types. in_turn (map (node_of T) (step_ops (step ∷ steps) place)) (naming_at types place)) regroup
    ∙ made_first (node_of T) (step_op step place) (step_ops steps (after_step step place))
    (naming_at (step_types step place ++ more) place) (naming_at more (after_step step place)) (naming_at rest (after_steps steps (after_step step place)))
    (step_node step place) (step_nodes steps (after_step step place))
    (made_step T more step place visible named sound.0 here)
    (made_steps T rest steps (after_step step place) (visible_behind step place visible) (IsNamed-step step place named) sound.1 behind)

pub types-steps : (rest : List Ty) (steps : List Step) (place : Place)
    → place.types ++ (steps_types steps place ++ rest) ≡ (after_steps steps place).types ++ rest
unfolding after_steps
types-steps rest [] place = refl
types-steps rest (step ∷ steps) place =
    ap (λ types. place.types ++ types) (append_assoc (step_types step place) (steps_types steps (after_step step place)) rest)
    ∙ types-step (steps_types steps (after_step step place) ++ rest) step place
    ∙ types-steps rest steps (after_step step place)
