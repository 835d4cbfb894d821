-- The steps of a function are read as their nodes.
use Rattle.std.proofs.Common.{◌≡◌, ℕ, ◌^◌, ◌<◌, ◌≤◌, List, [], ◌∷◌, ◌++◌, append_assoc, refl, ap, ◌∙◌, arith}
use Rattle.std.specs.Prelude.{ℤ, pos, unsigned_abs, reverse, Some, codes}
use Rattle.av_bits.specs.declared.types.Width.TheVariants.{W32}
use Rattle.av_ir.specs.declared.ty.Elem.TheVariants.{Index}
use Rattle.av_ir.specs.declared.ty.Ty.TheVariants.{Scalar}
use Rattle.av_lex.specs.declared.token.Sign.TheVariants as sign
use Rattle.av_tree.specs.declared.attribute.Named.{Named}
use Rattle.av_tree.specs.declared.node.Node.{Node, Node-F, roll-Node}
use Rattle.av_tree.specs.declared.node.Body.{Body, Body-F, out-roll-Body, roll-Body}
use Rattle.av_tree.specs.declared.node.BodyArg.{BodyArg}
use Rattle.av_tree.specs.declared.table.Symbol.TheVariants as symbol
use Rattle.av_tree.specs.declared.table.Name.TheVariants as name
use Rattle.av_tree.specs.declared.table.Rule.TheVariants as rule
use Rattle.av_tree.specs.declared.table.affine.AffineName.TheVariants as affine_name
use Rattle.av_tree.specs.declared.table.affine.AffineRule.TheVariants as affine_rule
use Rattle.av_tree.specs.declared.table.attributes.AttributeName.TheVariants as attributes_name
use Rattle.av_tree.specs.declared.table.regions.RegionName.TheVariants as regions_name
use Rattle.av_derive.specs.ClassOf.{keywords}
use Rattle.av_values.specs.Sorts.{on_top, replaced}
use Rattle.av_dialects.specs.Rows.{forms as row_forms, names, results}
use Rattle.av_values.specs.Gifts.{first_numbers, sizes_entry, with_args_before}
use Rattle.av_values.specs.Loops.{bound_of_number, counter, ended, step, with_pairs}
use Rattle.av_values.specs.Made.{by_row as by_row_of}
use Rattle.av_values.proofs.Entries.{sizes-first}
use Rattle.av_values.specs.declared.value.Value.TheVariants as value
use Rattle.av_printer.specs.declared.form.Form.TheVariants as forms
use Rattle.av_totree.specs.Constants.{signed_low}
use Rattle.av_totree.specs.Names.{argument_name, operation_name}
use Rattle.av_program_laws.specs.Programs.{Line, Step, single, counted}
use Rattle.av_program_laws.specs.Walks.{Place, next, after_lines, inside, after_step, after_steps}
use Rattle.av_program_laws.specs.WrittenTrees.{entry, mark, argument, loop_body, end_node}
use Rattle.av_program_laws.specs.WrittenTrees as written
use Rattle.av_program_laws.specs.ReadTrees.{node, line_nodes, loop_properties, step_node, step_nodes}
use Rattle.av_program_laws.specs.Sound.{AreSoundLines, IsSoundStep, AreSoundSteps, visible_behind}
use Rattle.av_read_laws.specs.Making.{Word, Makes, nothing, by_sign, by_word, by_token, by_row}
use Rattle.av_output_laws.proofs.Parts.{sign_word, number_words, mark_words, made_integer, made_mark}
use Rattle.av_round_trip.proofs.Following.{followed, row, closed, respelled, revalued}
use Rattle.av_output_laws.proofs.Nodes.{bare}
use Rattle.av_output_laws.proofs.ProgramWords.{loop_words, lines_words, step_words, steps_words}
use Rattle.av_output_laws.proofs.Forms.{Form, constant_form}
use Rattle.av_output_laws.proofs.Bounds.{small_constant, HasSmall, HasFewLoops, small-inside, small-step, few-step, number-step, number-steps, lines-before}
use Rattle.av_output_laws.proofs.Operations.{Operations, with_name, with_result, without_result, no_branch, return_last, made_region, turned, reverse-turned, terminated-open}
use Rattle.av_output_laws.proofs.Lines.{i32_constant, constant_is, front_nodes, open_front, line_nodes-front, made_lines}

-- ---- bounds
module _ {most : ℕ} where
  lower_bound : (z : ℤ) → unsigned_abs z < 2 ^ 127
      → Makes most (symbol.Rows (name.Affine affine_name.LowerBound) ∷ []) (number_words z) (value.MapUse (bound_of_number z) ∷ [])
  unfolding replaced on_top
  lower_bound z h =
      row (rule.Affine affine_rule.PlainLowerBound) refl tt
      (row (rule.Affine affine_rule.NumberBound) refl tt (closed (made_integer z h nothing)) refl) refl

  upper_bound : (z : ℤ) → unsigned_abs z < 2 ^ 127
      → Makes most (symbol.Rows (name.Affine affine_name.UpperBound) ∷ []) (number_words z) (value.MapUse (bound_of_number z) ∷ [])
  unfolding replaced on_top
  upper_bound z h =
      row (rule.Affine affine_rule.PlainUpperBound) refl tt
      (row (rule.Affine affine_rule.NumberBound) refl tt (closed (made_integer z h nothing)) refl) refl

-- ---- the node of a loop
abbrev loop_layer : List ℕ → ℤ → ℤ → List Node → List Named → Node-F Body Node
loop_layer name lower upper nodes attrs = record {
  name = codes "affine.for";
  place = 0;
  results = [];
  operands = [];
  properties = loop_properties forms.Named lower upper;
  attrs = attrs;
  regions = roll-Body (record { args = argument name (Scalar Index) ∷ []; nodes = nodes }) ∷ [];
  in_types = [];
  out_types = [];
}

-- the arguments of the region, and the numbers of operands of its bounds
region-args : (args : List BodyArg) (nodes : List Node)
    → with_args_before args (roll-Body (record { args = []; nodes = nodes }) ∷ []) ≡ roll-Body (record { args = args ++ []; nodes = nodes }) ∷ []
region-args args nodes =
    ap (λ (b : Body-F Body Node). roll-Body (record b { args = args ++ b.args }) ∷ []) (out-roll-Body (record { args = []; nodes = nodes }))

all-args : (name : List ℕ) (nodes : List Node)
    → with_args_before (counter name ∷ []) (with_args_before [] (roll-Body (record { args = []; nodes = nodes }) ∷ []))
    ≡ roll-Body (record { args = argument name (Scalar Index) ∷ []; nodes = nodes }) ∷ []
all-args name nodes = ap (with_args_before (counter name ∷ [])) (region-args [] nodes) ∙ region-args (counter name ∷ []) nodes

loop-row : (name : List ℕ) (lower upper : ℤ) (nodes : List Node) (attrs : List Named)
    → by_row_of 31 0 (value.Text name ∷ value.MapUse (bound_of_number lower) ∷ value.MapUse (bound_of_number upper) ∷ value.Number (pos 1)
    ∷ value.Carried (record { pairs = []; types = [] }) ∷ value.Nodes nodes ∷ value.Entries attrs ∷ [])
    ≡ Some (value.Node (roll-Node (loop_layer name lower upper (ended (codes "affine.yield") (reverse nodes)) (reverse attrs))) ∷ [])
unfolding row_forms names results replaced on_top with_pairs
loop-row name lower upper nodes attrs =
    let around : List Body → List ℤ → Node = λ bodies numbers. roll-Node (record (loop_layer name lower upper [] (reverse attrs)) {
      properties = entry (codes "lowerBoundMap") (bound_of_number lower).map ∷ entry (codes "upperBoundMap") (bound_of_number upper).map
          ∷ entry (codes "step") (step (pos 1)) ∷ sizes_entry (pos 0 ∷ numbers) ∷ [];
      regions = bodies;
    }) in
    let given : List ℤ = first_numbers (sizes_entry (pos 0 ∷ pos 0 ∷ []) ∷ []) in
    ap (λ bodies. Some (value.Node (around bodies given) ∷ [])) (all-args name (ended (codes "affine.yield") (reverse nodes)))
    ∙ ap (λ numbers. Some (value.Node (around (roll-Body (record { args = argument name (Scalar Index) ∷ []; nodes = ended (codes "affine.yield") (reverse nodes) }) ∷ []) numbers) ∷ []))
    (sizes-first (pos 0 ∷ pos 0 ∷ []) [])

-- ---- steps
module _ {most : ℕ} (two : 2 ≤ most) where
  -- the region of a loop, and the mark behind it
  body_words : (inside : List Word) (nodes : List Node) (number : ℕ) → number < 2 ^ 64 → Makes most (Operations ∷ []) inside (value.Nodes nodes ∷ [])
      → Makes most (symbol.Rows (name.Region regions_name.Region) ∷ symbol.Rows (name.Attribute attributes_name.OptionalDictionary) ∷ [])
      (sign_word sign.OpenCurly ∷ (inside ++ (sign_word sign.CloseCurly ∷ mark_words (codes "affvec.loop") number)))
      (value.Nodes nodes ∷ value.Entries (mark (codes "affvec.loop") number) ∷ [])
  unfolding keywords names
  body_words inside nodes number few made =
      respelled (ap (λ l. sign_word sign.OpenCurly ∷ l) (append_assoc inside (sign_word sign.CloseCurly ∷ []) (mark_words (codes "affvec.loop") number)))
      (followed (made_region made) (made_mark (codes "affvec.loop") number refl few nothing))

  -- a loop around operations
  loop_around : (name : List ℕ) (lower upper : ℤ) (inside : List Word) (nodes : List Node) (number : ℕ)
      → unsigned_abs lower < 2 ^ 127 → unsigned_abs upper < 2 ^ 127 → number < 2 ^ 64 → Makes most (Operations ∷ []) inside (value.Nodes nodes ∷ [])
      → Makes most (Form ∷ []) (loop_words name lower upper inside number)
      (value.Node (roll-Node (loop_layer name lower upper (ended (codes "affine.yield") (reverse nodes)) (mark (codes "affvec.loop") number))) ∷ [])
  unfolding replaced on_top keywords row_forms names
  loop_around name lower upper inside nodes number low high few made =
      let ending = by_row {ws = []} (rule.Affine affine_rule.NoStep) refl tt nothing refl
      (by_row {ws = []} (rule.Affine affine_rule.NoIterArgs) refl tt nothing refl (body_words inside nodes number few made)) in
      row (rule.Operation 31) refl tt
      (by_word refl (by_token refl (by_sign refl (followed (lower_bound lower low) (by_word refl (followed (upper_bound upper high) ending))))))
      (loop-row name lower upper nodes (mark (codes "affvec.loop") number))

  front-terminated : (lines : List Line) (place : Place)
      → ended (codes "affine.yield") (reverse (turned (front_nodes (next place) lines (inside place)))) ≡ line_nodes forms.Named (next place) lines (inside place)
  front-terminated lines place =
      let front = front_nodes (next place) lines (inside place) in
      ap (ended (codes "affine.yield")) (reverse-turned front) ∙ terminated-open front (open_front (next place) lines (inside place))
      ∙ line_nodes-front (next place) lines (inside place)

  loop_form : (lower upper : ℤ) (lines : List Line) (place : Place) (visible : List ℕ) → HasSmall place
      → unsigned_abs lower < 2 ^ 127 → unsigned_abs upper < 2 ^ 127 → AreSoundLines visible (inside place) lines
      → (after_lines lines (inside place)).number < 2 ^ 64 → place.loops < 2 ^ 64
      → Makes most (Form ∷ []) (loop_words (argument_name place.arguments) lower upper (lines_words (next place) lines (inside place)) place.loops)
      (value.Node (roll-Node (loop_layer (argument_name place.arguments) lower upper (line_nodes forms.Named (next place) lines (inside place)) (mark (codes "affvec.loop") place.loops))) ∷ [])
  loop_form lower upper lines place visible small low high sound few counted_few =
      revalued (ap (λ nodes. value.Node (roll-Node (loop_layer (argument_name place.arguments) lower upper nodes (mark (codes "affvec.loop") place.loops))) ∷ [])
      (front-terminated lines place))
      (loop_around (argument_name place.arguments) lower upper (lines_words (next place) lines (inside place))
      (turned (front_nodes (next place) lines (inside place))) place.loops low high counted_few
      (made_lines two (next place) lines (inside place) visible (small-inside place small) sound few))

  loop_node-is : (lower upper : ℤ) (lines : List Line) (place : Place)
      → roll-Node (loop_layer (argument_name place.arguments) lower upper (line_nodes forms.Named (next place) lines (inside place)) (mark (codes "affvec.loop") place.loops))
      ≡ step_node forms.Named (counted lower upper lines) place
  unfolding step_node node loop_body
  loop_node-is lower upper lines place = refl

  single_is : (pattern : ℕ) (place : Place) → roll-Node (with_name (i32_constant pattern) (operation_name place.operations)) ≡ step_node forms.Named (single pattern) place
  unfolding step_node
  single_is pattern place = constant_is pattern place

  made_step : (step : Step) (place : Place) (visible : List ℕ) → HasSmall place → HasFewLoops place → IsSoundStep visible place step
      → (after_step step place).number < 2 ^ 64
      → {others : List Word} {nodes : List Node} → Makes most (Operations ∷ []) others (value.Nodes nodes ∷ [])
      → Makes most (Operations ∷ []) (step_words step place ++ others) (value.Nodes (nodes ++ step_node forms.Named step place ∷ []) ∷ [])
  unfolding IsSoundStep
  made_step (single pattern) place visible small loops sound few {others} {nodes} rest =
      revalued (ap (λ n. value.Nodes (nodes ++ n ∷ []) ∷ []) (single_is pattern place))
      (with_result (i32_constant pattern) (operation_name place.operations) (constant_form (signed_low W32 pattern) (small_constant pattern)) rest)
  made_step (counted lower upper lines) place visible small loops sound few {others} {nodes} rest =
      let counted_few : place.loops < 2 ^ 64 = omega (arith, number-step (counted lower upper lines) place) in
      let low : unsigned_abs lower < 2 ^ 127 = omega (arith, sound.0) in
      let high : unsigned_abs upper < 2 ^ 127 = omega (arith, sound.1) in
      revalued (ap (λ n. value.Nodes (nodes ++ n ∷ []) ∷ []) (loop_node-is lower upper lines place))
      (without_result (roll-Node (loop_layer (argument_name place.arguments) lower upper (line_nodes forms.Named (next place) lines (inside place)) (mark (codes "affvec.loop") place.loops)))
      (no_branch _ refl)
      (loop_form lower upper lines place _ small low high sound.2 (lines-before lower upper lines place (2 ^ 64) few) counted_few) rest)

  return_is : (place : Place) → roll-Node (bare (codes "func.return")) ≡ end_node (codes "func.return") place
  unfolding end_node written.node
  return_is place = refl

  pub made_steps : (steps : List Step) (place : Place) (visible : List ℕ) → HasSmall place → HasFewLoops place → AreSoundSteps visible place steps
      → (after_steps steps place).number < 2 ^ 64
      → Makes most (Operations ∷ []) (steps_words steps place) (value.Nodes (turned (step_nodes forms.Named steps place)) ∷ [])
  unfolding steps_words AreSoundSteps after_steps turned step_nodes
  made_steps [] place visible small loops sound few = revalued (ap (λ n. value.Nodes (n ∷ []) ∷ []) (return_is place)) return_last
  made_steps (step ∷ steps) place visible small loops sound few =
      let here : (after_step step place).number < 2 ^ 64 = omega (arith, number-steps steps (after_step step place)) in
      made_step step place visible small loops sound.0 here
      (made_steps steps (after_step step place) (visible_behind step place visible) (small-step step place small) (few-step step place loops) sound.1 few)
