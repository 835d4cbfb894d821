-- The words of a program's tree.
use Rattle.std.proofs.Common.{◌≡◌, ℕ, ◌+◌, Bool, true, false, List, [], ◌∷◌, ◌++◌, map, append_assoc, append-nil, refl, sym, ap, ◌∙◌}
use Rattle.std.specs.Prelude.{ℤ, pos, Option, Some, codes}
use Rattle.av_bits.specs.declared.types.Width.TheVariants.{W32}
use Rattle.av_lex.specs.declared.token.Kind.TheVariants as kinds
use Rattle.av_lex.specs.declared.token.Sign.TheVariants as signs
use Rattle.av_ir.specs.declared.ty.Elem.TheVariants.{Index}
use Rattle.av_ir.specs.declared.ty.Ty.TheVariants.{Scalar}
use Rattle.av_tree.specs.declared.attribute.Attr.{Attr, out-Attr, out-roll-Attr}
use Rattle.av_tree.specs.declared.attribute.Attr.TheVariants as attr
use Rattle.av_tree.specs.declared.attribute.Attr.TheOpen as open_attr
use Rattle.av_tree.specs.declared.attribute.Named.{Named}
use Rattle.av_tree.specs.declared.node.Node.{Node, Node-F, roll-Node}
use Rattle.av_tree.specs.declared.node.Body.{Body, Body-F, roll-Body, out-roll-Body}
use Rattle.av_tree.specs.declared.node.BodyArg.{BodyArg}
use Rattle.av_tree.specs.declared.written.ExprText.{out-ExprText, out-roll-ExprText}
use Rattle.av_tree.specs.declared.written.ExprText.TheVariants.{rolls-Const}
use Rattle.av_tree.specs.declared.written.ExprText.TheOpen as open_expr
use Rattle.av_tree.specs.declared.written.TypeText.{TypeText}
use Rattle.av_tree.specs.declared.written.TypeText.TheVariants as ty
use Rattle.av_printer.specs.declared.form.Form.TheVariants as forms
use Rattle.av_printer.specs.declared.named.NamedForm.TheVariants as own
use Rattle.av_printer.specs.Pieces.{Piece, space, sign, plain, new_line, commas, behind, joined}
use Rattle.av_printer.specs.Expressions.{number, single_bound, single_bound_of, constant_bound, bound_by}
use Rattle.av_printer.specs.Types.{type_pieces}
use Rattle.av_printer.specs.OwnForms.{own_form, own_line}
use Rattle.av_printer.specs.Parts.{before_regions, behind_seen, form_line, form_end, first_word, parts_pieces, part_pieces, bound_in, bound_of}
use Rattle.av_dialects.specs.declared.item.Item.TheVariants as item
use Rattle.av_dialects.specs.declared.item.Lead.TheVariants as lead
use Rattle.av_dialects.specs.Rows.{Part, names, forms as table}
use Rattle.av_printer.specs.Operations.{Head, results_before, property, step_of, text_of, results_of, results_behind, function_name, attributes_word, marks_behind, function_line, argument, arguments_pieces, values_behind, variable, step_behind, carried_behind}
use Rattle.av_printer.specs.Spelling.{is_silent, is_yield, node_line, own_body, pieces_of}
use Rattle.av_printer.proofs.NodeSteps.{own-of}
use Rattle.av_printer.proofs.OperationSteps.{step-some, text-some, results_of-some, results-func}
use Rattle.av_print_laws.specs.Spacing.{words_of}
use Rattle.av_totree.specs.Constants.{signed_low}
use Rattle.av_totree.specs.Names.{argument_name, operation_name}
use Rattle.av_totree.specs.Types.{type_of}
use Rattle.av_program_laws.specs.Programs.{Step, single, counted, Program}
use Rattle.av_program_laws.specs.Walks.{Place, next, buffer, inside, after_step, first_place, body_place}
use Rattle.av_program_laws.specs.WrittenTrees as written
use Rattle.av_program_laws.specs.WrittenTrees.{entry, number_of, map_entry, bound_map, mark, node, end_node, line_nodes, loop_body, loop_properties, step_node, step_nodes, function_properties, outer_node, function_node, written_tree}
use Rattle.av_read_laws.specs.Making.{Word}
use Rattle.av_output_laws.proofs.Parts.{sign_word, number_words, mark_words}
use Rattle.av_output_laws.proofs.PlainNames.{HasPlain, plain-inside, plain-step, plain-buffers, no_names}
use Rattle.av_output_laws.proofs.Saying.{Says, none, also, said_as, saying, all_said, token_said, sign_said, space_said, new_line_said, number_said}
use Rattle.av_output_laws.proofs.SaidParts.{marks_said, property_first, property_next}
use Rattle.av_output_laws.proofs.SaidForms.{led, without_operands}
use Rattle.av_output_laws.proofs.SaidLines.{head_at, whole_is, operation_said, written_layer, constant_said, lines_said}
use Rattle.av_output_laws.proofs.ProgramWords.{value_word, plain_word, lines_words, step_words, steps_words, argument_words, more_arguments_words, arguments_words, function_words, program_words}

-- ---- regions
abbrev body_pieces : ℕ → List Node → List Piece
body_pieces depth nodes = space ++ sign signs.OpenCurly ++ joined (map (node_line forms.Named (depth + 1)) nodes) ++ new_line depth ++ sign signs.CloseCurly

body_said : (depth : ℕ) (args : List BodyArg) (nodes : List Node) {f : List Word → List Word} → Says (joined (map (node_line forms.Named (depth + 1)) nodes)) f
    → Says (own_body depth (roll-Body (record { args = args; nodes = nodes }))) (λ ws. sign_word signs.OpenCurly ∷ f (sign_word signs.CloseCurly ∷ ws))
body_said depth args nodes said =
    said_as (own-of depth (roll-Body (record { args = args; nodes = nodes })) ∙ ap (λ (b : Body-F Body Node). body_pieces depth b.nodes) (out-roll-Body _))
    (also (also (also (also space_said (sign_said signs.OpenCurly)) said) (new_line_said depth)) (sign_said signs.CloseCurly))

-- ---- loops
-- a bound of one number
bound_said : (lower : Bool) (z : ℤ) (o : Option Attr) → o ≡ Some (attr.Map (bound_map z)) → Says (bound_of lower o []) (λ ws. number_words z ++ ws)
unfolding bound_of bound_by single_bound constant_bound
bound_said lower z o is =
    said_as (ap (λ (o : Option Attr). bound_of lower o []) is
    ∙ ap (bound_in lower []) (ap out-Attr (sym (attr.rolls-Map (bound_map z))) ∙ out-roll-Attr (open_attr.Map (bound_map z)))
    ∙ ap (single_bound_of (bound_map z) []) (ap out-ExprText (sym (rolls-Const z)) ∙ out-roll-ExprText (open_expr.Const z)))
    (number_said z)

module _ (lower upper : ℤ) where
  abbrev props : List Named
  props = loop_properties lower upper

  lower_there : property props (codes "lowerBoundMap") ≡ Some (attr.Map (bound_map lower))
  lower_there =
      property_next (codes "operandSegmentSizes") (codes "lowerBoundMap") _ _ refl
      ∙ property_next (codes "step") (codes "lowerBoundMap") _ _ refl
      ∙ property_first (codes "lowerBoundMap") (attr.Map (bound_map lower)) _ refl

  upper_there : property props (codes "upperBoundMap") ≡ Some (attr.Map (bound_map upper))
  upper_there =
      property_next (codes "operandSegmentSizes") (codes "upperBoundMap") _ _ refl
      ∙ property_next (codes "step") (codes "upperBoundMap") _ _ refl
      ∙ property_next (codes "lowerBoundMap") (codes "upperBoundMap") _ _ refl
      ∙ property_first (codes "upperBoundMap") (attr.Map (bound_map upper)) _ refl

  step_there : step_of (property props (codes "step")) ≡ pos 1
  step_there =
      ap step_of (property_next (codes "operandSegmentSizes") (codes "step") _ _ refl
      ∙ property_first (codes "step") (number_of (codes "index") (pos 1)) _ refl) ∙ step-some (pos 1) (ty.Scalar (codes "index"))

  -- a step of 1 isn't written
  unit_step_said : Says (step_behind (step_of (property props (codes "step")))) (λ ws. ws)
  unfolding step_behind
  unit_step_said = said_as (ap step_behind step_there) none

  abbrev loop_head : List BodyArg → ℕ → Head
  loop_head args loop = record {
    name = codes "affine.for";
    results = [];
    operands = [];
    properties = props;
    attrs = mark (codes "affvec.loop") loop;
    in_types = [];
    out_types = [];
    arguments = args;
  }

  abbrev loop_parts : List Part
  loop_parts = (lead.Blank, item.Counter) ∷ (lead.Equal, item.LowerBound) ∷ (lead.To, item.UpperBound) ∷ (lead.Nothing, item.Step) ∷ (lead.Nothing, item.Carried) ∷ []

  -- what stands before the region
  start_said : (arg : BodyArg) (loop : ℕ) → Says (plain (codes "affine.for") ++ parts_pieces (loop_head (arg ∷ []) loop) loop_parts [])
      (λ ws. plain_word (codes "affine.for") ∷ value_word arg.name ∷ sign_word signs.Equal ∷ (number_words lower ++ (plain_word (codes "to") ∷ (number_words upper ++ ws))))
  unfolding part_pieces variable carried_behind
  start_said arg loop =
      also (token_said kinds.Word (codes "affine.for"))
      (said_as (without_operands (loop_head (arg ∷ []) loop) loop_parts)
      (also (led lead.Blank (token_said kinds.ValId arg.name))
      (also (led lead.Equal (bound_said true lower _ lower_there))
      (also (led lead.To (bound_said false upper _ upper_there))
      (also (led lead.Nothing unit_step_said) (also (led lead.Nothing none) none))))))

  loop_said : (nodes : List Node) (place : Place) (depth : ℕ) {f : List Word → List Word}
      → Says (joined (map (node_line forms.Named (depth + 1)) nodes)) f
      → Says (node_line forms.Named depth (roll-Node (written_layer (codes "affine.for") place [] [] [] props (mark (codes "affvec.loop") place.loops) (loop_body nodes place ∷ []))))
      (λ ws. plain_word (codes "affine.for") ∷ value_word (argument_name place.arguments) ∷ sign_word signs.Equal
      ∷ (number_words lower ++ (plain_word (codes "to") ∷ (number_words upper
      ++ (sign_word signs.OpenCurly ∷ f (sign_word signs.CloseCurly ∷ (mark_words (codes "affvec.loop") place.loops ++ ws)))))))
  unfolding own_form is_silent is_yield results_before joined loop_body names table before_regions behind_seen form_line form_end first_word parts_pieces part_pieces
  loop_said nodes place depth said =
      let arg : BodyArg = written.argument (argument_name place.arguments) (Scalar Index) in
      operation_said (written_layer (codes "affine.for") place [] [] [] props (mark (codes "affvec.loop") place.loops) (loop_body nodes place ∷ [])) (own.Row _) depth refl refl
      (also none
      (also (also (said_as (ap (λ (b : Body-F Body Node). plain (codes "affine.for") ++ parts_pieces (loop_head b.args place.loops) loop_parts []) (out-roll-Body _))
      (start_said arg place.loops))
      (also (body_said depth (arg ∷ []) nodes said) none))
      (also (led lead.Nothing (marks_said (codes "affvec.loop") place.loops)) none)))

-- ---- steps
step_said : (step : Step) (place : Place) (depth : ℕ) → HasPlain place → Says (node_line forms.Named depth (step_node step place)) (λ ws. step_words step place ++ ws)
unfolding step_node node
step_said (single pattern) place depth all =
    saying (λ ws. ap (λ l. value_word (operation_name place.operations) ∷ sign_word signs.Equal ∷ plain_word (codes "arith.constant") ∷ l)
    (sym (append_assoc (number_words (signed_low W32 pattern)) (sign_word signs.Colon ∷ plain_word (codes "i32") ∷ []) ws)))
    (constant_said pattern place depth)
step_said (counted lower upper lines) place depth all =
    let words = lines_words (next place) lines (inside place) in
    let marks = mark_words (codes "affvec.loop") place.loops in
    saying (λ ws. ap (λ l. plain_word (codes "affine.for") ∷ value_word (argument_name place.arguments) ∷ sign_word signs.Equal ∷ l)
    (ap (λ l. number_words lower ++ (plain_word (codes "to") ∷ l))
    (ap (λ l. number_words upper ++ (sign_word signs.OpenCurly ∷ l)) (sym (append_assoc words (sign_word signs.CloseCurly ∷ marks) ws))
    ∙ sym (append_assoc (number_words upper) _ ws))
    ∙ sym (append_assoc (number_words lower) _ ws)))
    (loop_said lower upper (line_nodes (next place) lines (inside place)) place depth (lines_said (next place) lines (inside place) (depth + 1) (plain-inside place all)))

return_said : (place : Place) (depth : ℕ) → Says (node_line forms.Named depth (end_node (codes "func.return") place)) (λ ws. plain_word (codes "return") ∷ ws)
unfolding end_node node own_form is_silent is_yield results_before values_behind joined names table before_regions behind_seen form_line form_end first_word parts_pieces part_pieces
return_said place depth =
    operation_said (written_layer (codes "func.return") place [] [] [] [] [] []) (own.Row _) depth refl refl
    (also none (also (also (also (token_said kinds.Word (codes "return")) (also (led lead.Nothing none) none)) none) none))

steps_said : (steps : List Step) (place : Place) (depth : ℕ) → HasPlain place
    → Says (joined (map (node_line forms.Named depth) (step_nodes steps place))) (λ ws. steps_words steps place ++ ws)
unfolding joined step_nodes steps_words
steps_said [] place depth all = also (return_said place depth) none
steps_said (step ∷ steps) place depth all =
    saying (λ ws. sym (append_assoc (step_words step place) (steps_words steps (after_step step place)) ws))
    (also (step_said step place depth all) (steps_said steps (after_step step place) depth (plain-step step place all)))

-- ---- the function
argument_said : (number size : ℕ) → Says (argument (written.argument (argument_name number) (buffer size))) (λ ws. argument_words number size ++ ws)
unfolding argument
argument_said number size =
    also (also (token_said kinds.ValId (argument_name number)) (also (sign_said signs.Colon) space_said)) (all_said (type_pieces (type_of (buffer size))))

more_said : (number : ℕ) (sizes : List ℕ) → Says (behind (map argument (written.arguments number sizes))) (λ ws. more_arguments_words number sizes ++ ws)
unfolding behind written.arguments more_arguments_words
more_said number [] = none
more_said number (size ∷ sizes) =
    saying (λ ws. ap (λ l. sign_word signs.Comma ∷ l) (sym (append_assoc (argument_words number size) (more_arguments_words (number + 1) sizes) ws)))
    (also (also (also (sign_said signs.Comma) space_said) (argument_said number size)) (more_said (number + 1) sizes))

arguments_said : (number : ℕ) (sizes : List ℕ) → Says (commas (map argument (written.arguments number sizes))) (λ ws. arguments_words number sizes ++ ws)
unfolding commas written.arguments arguments_words
arguments_said number [] = none
arguments_said number (size ∷ sizes) =
    saying (λ ws. sym (append_assoc (argument_words number size) (more_arguments_words (number + 1) sizes) ws))
    (also (argument_said number size) (more_said (number + 1) sizes))

module _ (p : Program) where
  abbrev function_props : List Named
  function_props = function_properties p

  name_there : text_of (property function_props (codes "sym_name")) ≡ p.name
  name_there =
      ap text_of (property_next (codes "function_type") (codes "sym_name") _ _ refl ∙ property_first (codes "sym_name") (attr.Quoted p.name) [] refl) ∙ text-some p.name

  results_there : results_of (property function_props (codes "function_type")) ≡ []
  results_there =
      ap results_of (property_first (codes "function_type") _ _ refl) ∙ results_of-some _ ∙ results-func _ []

  args_said : Says (arguments_pieces (written.arguments 0 p.sizes)) (λ ws. sign_word signs.OpenRound ∷ (arguments_words 0 p.sizes ++ (sign_word signs.CloseRound ∷ ws)))
  unfolding arguments_pieces
  args_said = also (also (sign_said signs.OpenRound) (arguments_said 0 p.sizes)) (sign_said signs.CloseRound)

  name_said : Says (function_name p.name) (λ ws. plain_word (codes "func.func") ∷ (kinds.SymId, codes "@" ++ p.name) ∷ ws)
  unfolding function_name
  name_said = also (also (token_said kinds.Word (codes "func.func")) space_said) (token_said kinds.SymId (codes "@" ++ p.name))

  abbrev nodes : List Node
  nodes = step_nodes p.steps (body_place p)

  abbrev outer_layer : List ℕ → List Named → Body → Node-F Body Node
  outer_layer name properties body = record {
    name = name;
    place = 0;
    results = [];
    operands = [];
    properties = properties;
    attrs = [];
    regions = body ∷ [];
    in_types = [];
    out_types = [];
  }

  -- a function's line with its arguments
  abbrev line_pieces : List ℕ → List BodyArg → List TypeText → List Piece
  line_pieces name args results = function_name name ++ arguments_pieces args ++ results_behind results ++ [] ++ []

  line_said : Says (line_pieces p.name (written.arguments 0 p.sizes) []) (λ ws. plain_word (codes "func.func") ∷ (kinds.SymId, codes "@" ++ p.name)
      ∷ sign_word signs.OpenRound ∷ (arguments_words 0 p.sizes ++ (sign_word signs.CloseRound ∷ ws)))
  unfolding results_behind
  line_said = also (also (also (also name_said args_said) none) none) none

  abbrev body : Body
  body = roll-Body (record { args = written.arguments 0 p.sizes; nodes = nodes })

  line_is : own_line own.Function (head_at (outer_layer (codes "func.func") function_props body)) ≡ line_pieces p.name (written.arguments 0 p.sizes) []
  unfolding function_line attributes_word marks_behind
  line_is =
      ap (λ (b : Body-F Body Node). line_pieces (text_of (property function_props (codes "sym_name"))) b.args (results_of (property function_props (codes "function_type")))) (out-roll-Body _)
      ∙ ap (λ name. line_pieces name (written.arguments 0 p.sizes) (results_of (property function_props (codes "function_type")))) name_there
      ∙ ap (λ results. line_pieces p.name (written.arguments 0 p.sizes) results) results_there

  function_said : Says (node_line forms.Named 1 (function_node p)) (λ ws. function_words p.name (arguments_words 0 p.sizes) (steps_words p.steps (body_place p)) ++ ws)
  unfolding outer_node own_form is_silent is_yield results_before joined
  function_said =
      saying (λ ws. ap (λ l. plain_word (codes "func.func") ∷ (kinds.SymId, codes "@" ++ p.name) ∷ sign_word signs.OpenRound ∷ l)
      (ap (λ l. arguments_words 0 p.sizes ++ (sign_word signs.CloseRound ∷ sign_word signs.OpenCurly ∷ l))
      (sym (append_assoc (steps_words p.steps (body_place p)) (sign_word signs.CloseCurly ∷ []) ws))
      ∙ sym (append_assoc (arguments_words 0 p.sizes) _ ws)))
      (operation_said (outer_layer (codes "func.func") function_props body) own.Function 1 refl refl
      (also none
      (also (also (said_as line_is line_said)
      (also (body_said 1 (written.arguments 0 p.sizes) nodes
      (steps_said p.steps (body_place p) 2 (plain-buffers p.sizes first_place (no_names first_place refl)))) none)) none)))

  -- ---- the module
  abbrev module_body : Body
  module_body = roll-Body (record { args = []; nodes = function_node p ∷ [] })

  pieces_said : Says (pieces_of forms.Named (written_tree p).root) (λ ws. plain_word (codes "module") ∷ sign_word signs.OpenCurly
      ∷ (function_words p.name (arguments_words 0 p.sizes) (steps_words p.steps (body_place p)) ++ (sign_word signs.CloseCurly ∷ ws)))
  unfolding outer_node own_form results_before joined
  pieces_said =
      also (said_as (whole_is (outer_layer (codes "builtin.module") [] module_body) own.Module 0 refl)
      (also none
      (also (also (token_said kinds.Word (codes "module"))
      (also (body_said 0 [] (function_node p ∷ []) (also function_said none)) none)) none)))
      (new_line_said 0)

  pub words_are : words_of (pieces_of forms.Named (written_tree p).root) ≡ program_words p
  unfolding words_of
  words_are = sym (ap words_of (append-nil (pieces_of forms.Named (written_tree p).root))) ∙ pieces_said.is []
