-- The tree that is printed for a sound program is whole, and it is read as the tree of its generic form.
use Rattle.std.proofs.Common.{◌≡◌, ℕ, ◌+◌, ◌^◌, ◌<◌, ◌≤◌, false, List, [], ◌∷◌, map, refl, sym, subst, ap, ◌∙◌, arith}
use Rattle.std.specs.Prelude.{ℤ, Some, Option, codes}
use Rattle.std.specs.Str.{bytes_eq}
use Rattle.std.specs.List.{All}
use Rattle.std.proofs.lemmas.List.Elements.{All-nil, All-cons, All-head, All-tail}
use Rattle.av_ir.specs.declared.ty.Ty.{Ty}
use Rattle.av_ir.specs.declared.ty.Ty.TheVariants.{Scalar}
use Rattle.av_ir.specs.declared.ty.Elem.TheVariants.{Index}
use Rattle.av_tree.specs.declared.attribute.Named.{Named}
use Rattle.av_tree.specs.declared.node.Node.{Node, Node-F, out-Node, roll-Node, out-roll-Node}
use Rattle.av_tree.specs.declared.node.Body.{Body, Body-F, roll-Body, out-roll-Body}
use Rattle.av_tree.specs.declared.node.BodyArg.{BodyArg}
use Rattle.av_tree.specs.declared.written.TypeText.{TypeText}
use Rattle.av_printer.specs.declared.form.Form.TheVariants as forms
use Rattle.av_printer.specs.Dictionaries.{inserted, ordered_onto, in_order}
use Rattle.av_totree.specs.Names.{argument_name, operation_name}
use Rattle.av_totree.specs.Types.{type_of}
use Rattle.av_program_laws.specs.Programs.{Line, constant, sum, load, store, Step, single, counted, Program}
use Rattle.av_program_laws.specs.Walks.{Place, element, buffer, type_at, name_at, next, after_line, after_lines, inside, after_step, after_steps, with_argument, after_buffers, first_place, body_place}
use Rattle.av_program_laws.specs.Modules.{subscript_values}
use Rattle.av_program_laws.specs.WrittenTrees as written
use Rattle.av_program_laws.specs.WrittenTrees.{mark, next_name, constant_node, end_node, argument, loop_body, arguments, function_properties, outer_node, written_tree}
use Rattle.av_program_laws.specs.ReadTrees as read
use Rattle.av_program_laws.specs.ReadTrees.{read_tree}
use Rattle.av_program_laws.specs.Sound.{IsSound, IsSoundLine, AreSoundLines, IsSoundStep, AreSoundSteps, visible_after, visible_behind}
use Rattle.av_round_trip.specs.Types.{IsNameOfValue}
use Rattle.av_round_trip.specs.Attributes.{AreEntries, no_entries}
use Rattle.av_round_trip.specs.Trees.{IsNameOfResults, IsKnownType, known, IsComplete, IsWholeLine, IsWholeArg, IsWhole, AreWholeBodies, AreWholeNodes, node, no_bodies, one_body_more, no_nodes, one_node_more, as_read, body_as_read}
use Rattle.av_round_trip.proofs.ReadNodes.{layer_as_read, as_read-is, body_as_read-is}
use Rattle.av_output_laws.proofs.Operations.{no_branch, completed-is}
use Rattle.av_output_laws.proofs.PlainNames.{HasPlain, plain_operation, plain_use, plain_result, plain-line, plain-inside, plain-step, plain-buffers, no_names}
use Rattle.av_output_laws.proofs.PlainTypes.{AreSmall, HasPlainTypes, IsPlainType, index_type, element_type, buffer_type, types-line, types-inside, types-step, types-buffers, no_types}
use Rattle.av_output_laws.proofs.Bounds.{HasFewLoops, few-step, number-line, number-lines, number-step, number-steps, lines-before}
use Rattle.av_output_laws.proofs.WholeParts.{whole_mark, whole_value, whole_access, whole_loop, whole_function}

-- ---- trees beside the trees as which they are read
pub record Rereads (most : ℕ) (before after : Node) : Type 0 where
  pub complete : IsComplete before
  pub whole : IsWhole most before
  pub is : as_read before ≡ after

record AreReread (most : ℕ) (before after : List Node) : Type 0 where
  whole : AreWholeNodes most before
  are : map as_read before ≡ after

record AreBodiesReread (most : ℕ) (before after : List Body) : Type 0 where
  whole : AreWholeBodies most before
  are : map body_as_read before ≡ after

abbrev region : List BodyArg → List Node → Body
region args nodes = roll-Body (record { args = args; nodes = nodes })

module _ {most : ℕ} where
  reread_as : {n m k : Node} → m ≡ k → Rereads most n m → Rereads most n k
  reread_as same h = record { complete = h.complete; whole = h.whole; is = h.is ∙ same }

  no_more : AreReread most [] []
  no_more = record { whole = no_nodes; are = refl }

  one_more : {n m : Node} {ns ms : List Node} → Rereads most n m → AreReread most ns ms → AreReread most (n ∷ ns) (m ∷ ms)
  one_more {n} {m} {ns} {ms} h others = record {
    whole = one_node_more n ns h.complete h.whole others.whole;
    are = ap (λ (k : Node). k ∷ map as_read ns) h.is ∙ ap (λ (ks : List Node). m ∷ ks) others.are;
  }

  no_region : AreBodiesReread most [] []
  no_region = record { whole = no_bodies; are = refl }

  one_region : (args : List BodyArg) {ns ms : List Node} → All IsWholeArg args → AreReread most ns ms → AreBodiesReread most (region args ns ∷ []) (region args ms ∷ [])
  one_region args {ns} {ms} plain inner =
      let layer : Body-F Body Node = record { args = args; nodes = ns } in
      let out = out-roll-Body layer in
      record {
        whole = one_body_more (roll-Body layer) [] (subst (λ (b : Body-F Body Node). All IsWholeArg b.args) (sym out) plain)
            (subst (λ (b : Body-F Body Node). AreWholeNodes most b.nodes) (sym out) inner.whole) no_bodies;
        are = ap (λ (b : Body). b ∷ [])
            (body_as_read-is (roll-Body layer) ∙ ap (λ (b : Body-F Body Node). region b.args (map as_read b.nodes)) out ∙ ap (region args) inner.are);
      }

  -- an operation that is no branch
  one_level : (x : Node-F Body Node) {regions : List Body} → bytes_eq x.name (codes "affine.if") ≡ false → IsWholeLine most x → AreBodiesReread most x.regions regions
      → Rereads most (roll-Node x) (roll-Node (record x { place = 0; properties = in_order x.properties; attrs = in_order x.attrs; regions = regions }))
  one_level x other line inner =
      let out = out-roll-Node x in
      record {
        complete = λ none. completed-is (roll-Node x) (no_branch x other);
        whole = node (roll-Node x) (subst (IsWholeLine most) (sym out) line) (subst (λ (y : Node-F Body Node). AreWholeBodies most y.regions) (sym out) inner.whole);
        is = as_read-is (roll-Node x) ∙ ap (λ (y : Node-F Body Node). roll-Node (layer_as_read y)) out
            ∙ ap (λ (bodies : List Body). roll-Node (record (layer_as_read x) { regions = bodies })) inner.are;
      }

-- ---- operations at a place
all_uses : (place : Place) → HasPlain place → (vs : List ℕ) → All IsNameOfValue (map (name_at place) vs)
all_uses place names [] = All-nil IsNameOfValue
all_uses place names (v ∷ vs) = All-cons IsNameOfValue (name_at place v) (map (name_at place) vs) (plain_use (name_at place v) (names v)) (all_uses place names vs)

abbrev takes_at : Place → List ℕ → List (Option TypeText)
takes_at place vs = map (λ value. Some (type_of (type_at place value))) vs

all_known : (place : Place) → HasPlainTypes place → (vs : List ℕ) → All IsKnownType (takes_at place vs)
all_known place types [] = All-nil IsKnownType
all_known place types (v ∷ vs) =
    All-cons IsKnownType (Some (type_of (type_at place v))) (takes_at place vs) (known (type_of (type_at place v)) (types v)) (all_known place types vs)

module _ {most : ℕ} (place : Place) (names : HasPlain place) (types : HasPlainTypes place) (word : List ℕ) (other : bytes_eq word (codes "affine.if") ≡ false)
    (vs : List ℕ) {properties marks : List Named} (says : AreEntries most properties) (marked : AreEntries most marks) where
  abbrev read_node : List (List ℕ) → List Ty → List Body → Node
  read_node results tys regions =
      read.node word place vs (takes_at place vs) results (map (λ ty. Some (type_of ty)) tys) (in_order properties) (in_order marks) regions

  with_result : (ty : Ty) → IsPlainType ty
      → Rereads most (written.node word place vs (next_name place) (ty ∷ []) properties marks []) (read_node (next_name place) (ty ∷ []) [])
  unfolding written.node read.node
  with_result ty plain =
      let name : List ℕ = operation_name place.operations in
      one_level _ other (record {
        makes = All-cons IsNameOfResults name [] (plain_result name (plain_operation place.operations)) (All-nil IsNameOfResults);
        uses = all_uses place names vs;
        says = says;
        marked = marked;
        takes = all_known place types vs;
        gives = All-cons IsKnownType (Some (type_of ty)) [] (known (type_of ty) plain) (All-nil IsKnownType);
      }) no_region

  without_result : {before after : List Body} → AreBodiesReread most before after
      → Rereads most (written.node word place vs [] [] properties marks before) (read_node [] [] after)
  unfolding written.node read.node
  without_result inner =
      one_level _ other (record {
        makes = All-nil IsNameOfResults;
        uses = all_uses place names vs;
        says = says;
        marked = marked;
        takes = all_known place types vs;
        gives = All-nil IsKnownType;
      }) inner

-- ---- lines
module _ {most : ℕ} (two : 2 ≤ most) (place : Place) (names : HasPlain place) (types : HasPlainTypes place) where
  reread_constant : (pattern : ℕ) → Rereads most (constant_node pattern place) (constant_node pattern place)
  unfolding constant_node written.node read.node ordered_onto inserted
  reread_constant pattern = with_result place names types (codes "arith.constant") refl [] (whole_value pattern) no_entries element element_type

  reread_end : (word : List ℕ) → bytes_eq word (codes "affine.if") ≡ false → Rereads most (end_node word place) (end_node word place)
  unfolding end_node written.node read.node ordered_onto
  reread_end word other = without_result place names types word other [] no_entries no_entries no_region

  reread_line : (counter : ℕ) (line : Line) (visible : List ℕ) → IsSoundLine visible place line → place.number < 2 ^ 64
      → Rereads most (written.line_node counter line place) (read.line_node forms.Generic counter line place)
  unfolding written.line_node read.line_node IsSoundLine ordered_onto inserted
  reread_line counter (constant pattern) visible sound few = reread_constant pattern
  reread_line counter (sum left right) visible sound few =
      let t = type_at place left in
      reread_as
      (ap (λ (u : Ty). read.node (codes "arith.addi") place (left ∷ right ∷ []) (Some (type_of t) ∷ Some (type_of u) ∷ []) (next_name place) (Some (type_of t) ∷ []) [] [] [])
      (sound.2.2 ∙ sym sound.1.2))
      (with_result place names types (codes "arith.addi") refl (left ∷ right ∷ []) no_entries no_entries t (types left))
  reread_line counter (load from at) visible sound few =
      with_result place names types (codes "affine.load") refl (from ∷ subscript_values counter at)
      (whole_access two at sound.1) (whole_mark (codes "affvec.of") place.number few) element element_type
  reread_line counter (store stored into at) visible sound few =
      without_result place names types (codes "affine.store") refl (stored ∷ into ∷ subscript_values counter at)
      (whole_access two at sound.2) (whole_mark (codes "affvec.of") place.number few) no_region

reread_lines : {most : ℕ} → 2 ≤ most → (counter : ℕ) (several : List Line) (place : Place) (visible : List ℕ) → HasPlain place → HasPlainTypes place
    → AreSoundLines visible place several → (after_lines several place).number < 2 ^ 64
    → AreReread most (written.line_nodes counter several place) (read.line_nodes forms.Generic counter several place)
unfolding written.line_nodes read.line_nodes AreSoundLines after_lines
reread_lines two counter [] place visible names types sound few = one_more (reread_end two place names types (codes "affine.yield") refl) no_more
reread_lines two counter (line ∷ several) place visible names types sound few =
    let here : place.number < 2 ^ 64 = omega (arith, number-line line place, number-lines several (after_line line place)) in
    one_more (reread_line two place names types counter line visible sound.0 here)
    (reread_lines two counter several (after_line line place) (visible_after line place visible) (plain-line line place names) (types-line line place types) sound.1 few)

-- ---- steps
-- entries in order
sorted : (lower upper : ℤ) → in_order (written.loop_properties lower upper) ≡ read.loop_properties forms.Generic lower upper
unfolding ordered_onto inserted denote.Hole.Carrier.out denote.Hole.Carrier.roll
sorted lower upper = refl

function_sorted : (p : Program) → in_order (function_properties p) ≡ function_properties p
unfolding ordered_onto inserted denote.Hole.Carrier.out denote.Hole.Carrier.roll
function_sorted p = refl

reread_step : {most : ℕ} → 2 ≤ most → (step : Step) (place : Place) (visible : List ℕ) → HasPlain place → HasPlainTypes place → HasFewLoops place
    → IsSoundStep visible place step → (after_step step place).number < 2 ^ 64 → Rereads most (written.step_node step place) (read.step_node forms.Generic step place)
unfolding written.step_node read.step_node loop_body IsSoundStep ordered_onto inserted
reread_step two (single pattern) place visible names types loops sound few = reread_constant two place names types pattern
reread_step two (counted lower upper several) place visible names types loops sound few =
    let within = inside place in
    let args : List BodyArg = argument (argument_name place.arguments) (Scalar Index) ∷ [] in
    let marks = mark (codes "affvec.loop") place.loops in
    let again : List Node = read.line_nodes forms.Generic (next place) several within in
    let counted_few : place.loops < 2 ^ 64 = omega (arith, number-step (counted lower upper several) place) in
    reread_as
    (ap (λ (properties : List Named). read.node (codes "affine.for") place [] [] [] [] properties marks (region args again ∷ [])) (sorted lower upper))
    (without_result place names types (codes "affine.for") refl [] (whole_loop two lower upper sound.0 sound.1) (whole_mark (codes "affvec.loop") place.loops counted_few)
    (one_region args (All-cons IsWholeArg (argument (argument_name place.arguments) (Scalar Index)) [] index_type (All-nil IsWholeArg))
    (reread_lines two (next place) several within _ (plain-inside place names) (types-inside place types) sound.2 (lines-before lower upper several place (2 ^ 64) few))))

reread_steps : {most : ℕ} → 2 ≤ most → (steps : List Step) (place : Place) (visible : List ℕ) → HasPlain place → HasPlainTypes place → HasFewLoops place
    → AreSoundSteps visible place steps → (after_steps steps place).number < 2 ^ 64
    → AreReread most (written.step_nodes steps place) (read.step_nodes forms.Generic steps place)
unfolding written.step_nodes read.step_nodes AreSoundSteps after_steps
reread_steps two [] place visible names types loops sound few = one_more (reread_end two place names types (codes "func.return") refl) no_more
reread_steps two (step ∷ steps) place visible names types loops sound few =
    let here : (after_step step place).number < 2 ^ 64 = omega (arith, number-steps steps (after_step step place)) in
    one_more (reread_step two step place visible names types loops sound.0 here)
    (reread_steps two steps (after_step step place) (visible_behind step place visible) (plain-step step place names) (types-step step place types)
    (few-step step place loops) sound.1 few)

-- ---- the function and the module
whole_buffers : (number : ℕ) (sizes : List ℕ) → AreSmall sizes → All IsWholeArg (arguments number sizes)
unfolding arguments
whole_buffers number [] small = All-nil IsWholeArg
whole_buffers number (size ∷ sizes) small =
    All-cons IsWholeArg (argument (argument_name number) (buffer size)) (arguments (number + 1) sizes)
    (buffer_type size (All-head (λ (size : ℕ). size < 2 ^ 31) size sizes small))
    (whole_buffers (number + 1) sizes (All-tail (λ (size : ℕ). size < 2 ^ 31) size sizes small))

few_buffers : (sizes : List ℕ) (place : Place) → HasFewLoops place → HasFewLoops (after_buffers sizes place)
unfolding after_buffers with_argument
few_buffers [] place few = few
few_buffers (size ∷ sizes) place few = few_buffers sizes (with_argument (buffer size) place) few

-- an operation of no values
reread_outer : {most : ℕ} (word : List ℕ) → bytes_eq word (codes "affine.if") ≡ false → {properties : List Named} → AreEntries most properties
    → {before after : Body} → AreBodiesReread most (before ∷ []) (after ∷ [])
    → Rereads most (outer_node word properties before) (outer_node word (in_order properties) after)
unfolding outer_node ordered_onto
reread_outer word other says inner =
    one_level _ other (record {
      makes = All-nil IsNameOfResults;
      uses = All-nil IsNameOfValue;
      says = says;
      marked = no_entries;
      takes = All-nil IsKnownType;
      gives = All-nil IsKnownType;
    }) inner

module _ {most : ℕ} (two : 2 ≤ most) (p : Program) (sound : IsSound p) where
  steps_reread : AreReread most (written.step_nodes p.steps (body_place p)) (read.step_nodes forms.Generic p.steps (body_place p))
  steps_reread =
      reread_steps two p.steps (body_place p) _ (plain-buffers p.sizes first_place (no_names first_place refl)) (types-buffers p.sizes first_place sound.sizes no_types)
      (few_buffers p.sizes first_place (omega arith)) sound.steps sound.few

  function_reread : Rereads most (written.function_node p) (read.function_node forms.Generic p)
  function_reread =
      reread_as
      (ap (λ (properties : List Named). outer_node (codes "func.func") properties (region (arguments 0 p.sizes) (read.step_nodes forms.Generic p.steps (body_place p)))) (function_sorted p))
      (reread_outer (codes "func.func") refl (whole_function p sound.sizes) (one_region (arguments 0 p.sizes) (whole_buffers 0 p.sizes sound.sizes) steps_reread))

  pub module_reread : Rereads most (written_tree p).root (read_tree forms.Generic p).root
  unfolding ordered_onto
  module_reread = reread_outer (codes "builtin.module") refl no_entries (one_region [] (All-nil IsWholeArg) (one_more function_reread no_more))

-- the module is one, and has no results
pub root_name : (p : Program) → (out-Node (written_tree p).root).name ≡ codes "builtin.module"
unfolding outer_node
root_name p = ap (λ (x : Node-F Body Node). x.name) (out-roll-Node _)

pub root_results : (p : Program) → (out-Node (written_tree p).root).results ≡ []
unfolding outer_node
root_results p = ap (λ (x : Node-F Body Node). x.results) (out-roll-Node _)
