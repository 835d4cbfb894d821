-- The function of a program, and its module, that are read again.
use Rattle.std.proofs.Common.{◌≡◌, ◌∙◌, ℕ, ◌+◌, ◌<◌, ◌^◌, arith, Bool, true, false, List, [], ◌∷◌, ◌++◌, append_assoc, append-nil, Some, None, map, length, refl, ap, sym, subst, inl}
use Rattle.std.specs.Prelude.{not, ◌&&◌, ◌==◌, Option, is_some, unwrap_or, codes, if◌then◌else◌}
use Rattle.std.specs.Cmp.Lexicographic.{pointwise}
use Rattle.std.specs.List.{All, list_all, range_with_len}
use Rattle.std.specs.Str.{bytes_eq}
use Rattle.std.proofs.lemmas.Bool.{eq-eqb, lt-ltb}
use Rattle.std.proofs.lemmas.List.Elements.{All-head, All-tail}
use Rattle.av_bits.specs.declared.types.Width.TheVariants.{W32}
use Rattle.av_ir.specs.declared.ty.Elem.TheVariants.{Int, Index}
use Rattle.av_ir.specs.declared.ty.Extent.TheVariants.{Fixed}
use Rattle.av_ir.specs.declared.ty.Ty.{Ty}
use Rattle.av_ir.specs.declared.ty.Ty.TheVariants.{Scalar}
use Rattle.av_ir.specs.declared.module.ValueId.{ValueId}
use Rattle.av_ir.specs.declared.module.Op.{Op}
use Rattle.av_ir.specs.declared.module.Region.{Region}
use Rattle.av_ir.specs.declared.module.Func.{Func}
use Rattle.av_ir.specs.declared.module.Module.{Module}
use Rattle.av_tree.specs.declared.attribute.Named.{Named}
use Rattle.av_tree.specs.declared.node.Body.{Body, Body-F, out-Body, roll-Body, out-roll-Body}
use Rattle.av_tree.specs.declared.node.BodyArg.{BodyArg}
use Rattle.av_tree.specs.declared.node.Node.{Node, Node-F, out-Node, roll-Node, out-roll-Node}
use Rattle.av_tree.specs.declared.written.TypeText.{TypeText, TypeText-F, out-TypeText, out-roll-TypeText}
use Rattle.av_tree.specs.declared.written.TypeText.TheOpen as open_text
use Rattle.av_tree.specs.declared.written.TypeText.TheVariants as text
use Rattle.av_tree.specs.declared.written.TypeText.TheVariants.{rolls-Func}
use Rattle.av_printer.specs.declared.form.Form.{Form}
use Rattle.av_totree.specs.Names.{argument_name}
use Rattle.av_totree.specs.Types.{type_of}
use Rattle.av_verify.specs.declared.module.Mode.TheVariants.{Run}
use Rattle.av_verify.specs.Parts.{Plain, Scope}
use Rattle.av_verify.specs.Elaboration.{Outcome, gives, Step, step, numbered, in_order, with_arguments, argument_values, closed, region_of, region_with, only_region, loop_of, operation_with, function_of, elaborated}
use Rattle.av_verify.specs.Elaboration as walk
use Rattle.av_verify.specs.FirstPath.{is_last, is_only, is_without_results}
use Rattle.av_verify.specs.Loops.{are_fresh, are_new, end_with}
use Rattle.av_verify.specs.Modules.{is_symbol, inputs_in_type, results_in_type, are_inputs, has_function_types, has_function_entries, are_within_limits, has_plain_region, function_rules, only_node, only_in, only_function, module_rules}
use Rattle.av_verify.specs.Modules as rules
use Rattle.av_verify.specs.Names.{Binding, bound, is_visible}
use Rattle.av_verify.specs.Scopes.{first_scope, defined}
use Rattle.av_verify.specs.Types.{is_type, is_within_limits, same_type, same_layout, memref_of}
use Rattle.av_verify.specs.Types as types
use Rattle.av_program_laws.specs.Programs.{Program}
use Rattle.av_program_laws.specs.Walks.{Place, buffer, next, with_argument, passed, after_buffers, first_place, body_place, last_place}
use Rattle.av_program_laws.specs.Modules.{value, step_ops, func_of, module_of}
use Rattle.av_program_laws.specs.WrittenTrees.{arguments, function_properties, outer_node}
use Rattle.av_program_laws.specs.ReadTrees.{step_nodes, function_node, read_tree}
use Rattle.av_program_laws.specs.Sound.{IsSound}
use Rattle.av_program_laws.specs.ProgramLaws.{ReadLaw}
use Rattle.av_program_laws.proofs.Ahead.{next-argument}
use Rattle.av_program_laws.proofs.AgainNames.{AreOld, old_more, old_last, argument_fresh}
use Rattle.av_program_laws.proofs.AgainRules.{AllHold, all_checked}
use Rattle.av_program_laws.proofs.TakenScopes.{bound_fresh}
use Rattle.av_program_laws.proofs.AgainScopes.{Fits, argument_new, fits_argument}
use Rattle.av_program_laws.proofs.AgainLines.{IsSmall}
use Rattle.av_program_laws.proofs.AgainPlaces.{before_buffers, before_steps, small_before, small_places}
use Rattle.av_program_laws.proofs.AgainLoops.{ends_as, AreSteps, steps_again, last_step}

-- ---- buffers
abbrev are_small : List ℕ → Type 0
are_small sizes = All (λ size. size < 2 ^ 31) sizes

arguments_fresh : (sizes : List ℕ) (k : ℕ) (seen : List Binding) → AreOld k 0 seen → k + length sizes < 10 ^ 64 → are_fresh [] seen (arguments k sizes) ≡ true
unfolding arguments
arguments_fresh [] k seen old few = refl
arguments_fresh (size ∷ sizes) k seen old few =
    let zero_value : ValueId = record { 0 = 0 } in
    let name = argument_name k in
    let fresh : is_visible seen name ≡ false = argument_fresh k 0 (omega (arith, few)) (omega arith) seen old in
    let more : AreOld (k + 1) 0 (bound seen name zero_value) =
    subst (λ (l : List Binding). AreOld (k + 1) 0 l) (sym (bound_fresh seen name zero_value fresh))
    (old_last (k + 1) 0 seen name zero_value (old_more k 0 (k + 1) 0 (omega arith) (omega arith) seen old) (inl (k, omega arith, refl))) in
    ap (λ v. not v && are_fresh [] (bound seen name zero_value) (arguments (k + 1) sizes)) fresh
    ∙ arguments_fresh sizes (k + 1) (bound seen name zero_value) more (omega (arith, few))

types_are : (sizes : List ℕ) (k : ℕ) → list_all (λ (arg : BodyArg). is_type arg.ty) (arguments k sizes) ≡ true
unfolding arguments
types_are [] k = refl
types_are (size ∷ sizes) k = types_are sizes (k + 1)

inputs_are : (sizes : List ℕ) (k : ℕ) → pointwise (λ (ty : TypeText) (arg : BodyArg). same_type ty arg.ty) (map (λ size. type_of (buffer size)) sizes) (arguments k sizes) ≡ true
unfolding arguments
inputs_are [] k = refl
inputs_are (size ∷ sizes) k =
    ap (λ b. ((b && true) && bytes_eq (codes "i32") (codes "i32") && same_layout None None)
    && pointwise (λ (ty : TypeText) (arg : BodyArg). same_type ty arg.ty) (map (λ size. type_of (buffer size)) sizes) (arguments (k + 1) sizes)) (eq-eqb size size refl)
    ∙ inputs_are sizes (k + 1)

limits_are : (sizes : List ℕ) (k : ℕ) → are_small sizes → list_all (λ (arg : BodyArg). is_within_limits arg.ty) (arguments k sizes) ≡ true
unfolding arguments
limits_are [] k small = refl
limits_are (size ∷ sizes) k small =
    ap (λ b. (b && true) && list_all (λ (arg : BodyArg). is_within_limits arg.ty) (arguments (k + 1) sizes)) (lt-ltb size (2 ^ 31) (All-head (λ size. size < 2 ^ 31) size sizes small))
    ∙ limits_are sizes (k + 1) (All-tail (λ size. size < 2 ^ 31) size sizes small)

buffer_again : (size : ℕ) → size < 2 ^ 31 → unwrap_or (types.type_of (type_of (buffer size))) (Scalar Index) ≡ buffer size
buffer_again size small =
    ap (λ b. unwrap_or (memref_of (Some (Int W32)) (if (b && true) then Some (Fixed size ∷ []) else None)) (Scalar Index)) (lt-ltb size (2 ^ 31) small)

values_are : (sizes : List ℕ) (k n : ℕ) → argument_values n (arguments k sizes) ≡ map value (range_with_len n (length sizes))
unfolding arguments
values_are [] k n = refl
values_are (size ∷ sizes) k n = ap (λ vs. value n ∷ vs) (values_are sizes (k + 1) (n + 1))

arguments_behind : (size : ℕ) (place : Place) → (with_argument (buffer size) place).arguments ≡ place.arguments + 1
unfolding with_argument
arguments_behind size place = refl

buffers_again : (sizes : List ℕ) (scope : Scope) (visible : List ℕ) (place : Place) → Fits scope visible place → IsSmall (after_buffers sizes place) → are_small sizes
    → Fits (with_arguments scope Plain (arguments place.arguments sizes)) (visible ++ range_with_len (next place) (length sizes)) (after_buffers sizes place)
unfolding arguments after_buffers
buffers_again [] scope visible place h small limits = subst (λ (l : List ℕ). Fits scope l place) (sym (append-nil visible)) h
buffers_again (size ∷ sizes) scope visible place h small limits =
    let behind = with_argument (buffer size) place in
    let here = small_before place (after_buffers (size ∷ sizes) place) (before_buffers (size ∷ sizes) place) small in
    let fresh = argument_new scope visible place h here.arguments here.operations in
    let after = defined scope (argument_name place.arguments) (buffer size) Plain in
    let rest : Fits (with_arguments after Plain (arguments (place.arguments + 1) sizes)) ((visible ++ next place ∷ []) ++ range_with_len (next behind) (length sizes)) (after_buffers sizes behind) =
    subst (λ k. Fits (with_arguments after Plain (arguments k sizes)) ((visible ++ next place ∷ []) ++ range_with_len (next behind) (length sizes)) (after_buffers sizes behind))
    (arguments_behind size place)
    (buffers_again sizes after (visible ++ next place ∷ []) behind (fits_argument scope visible place h (buffer size) Plain fresh) small
    (All-tail (λ size. size < 2 ^ 31) size sizes limits)) in
    let seen : (visible ++ next place ∷ []) ++ range_with_len (next behind) (length sizes) ≡ visible ++ next place ∷ range_with_len (next place + 1) (length sizes) =
    append_assoc visible (next place ∷ []) (range_with_len (next behind) (length sizes))
    ∙ ap (λ n. visible ++ next place ∷ range_with_len n (length sizes)) (next-argument (buffer size) place) in
    subst (λ (t : Ty). Fits (with_arguments (defined scope (argument_name place.arguments) t Plain) Plain (arguments (place.arguments + 1) sizes))
    (visible ++ next place ∷ range_with_len (next place + 1) (length sizes)) (after_buffers sizes behind))
    (sym (buffer_again size (All-head (λ size. size < 2 ^ 31) size sizes limits)))
    (subst (λ (l : List ℕ). Fits (with_arguments after Plain (arguments (place.arguments + 1) sizes)) l (after_buffers sizes behind)) seen rest)

-- ---- outer operations
outer_regions : (name : List ℕ) (properties : List Named) (body : Body) → (out-Node (outer_node name properties body)).regions ≡ body ∷ []
unfolding outer_node
outer_regions name properties body = ap (λ (x : Node-F Body Node). x.regions) (out-roll-Node (record {
  name = name;
  place = 0;
  results = [];
  operands = [];
  properties = properties;
  attrs = [];
  regions = body ∷ [];
  in_types = [];
  out_types = [];
}))

func_out : (inputs : List TypeText) → out-TypeText (text.Func inputs []) ≡ open_text.Func inputs []
func_out inputs = ap out-TypeText (sym (rolls-Func inputs [])) ∙ out-roll-TypeText (open_text.Func inputs [])

first_fits : Fits (numbered (numbered first_scope)) [] first_place
first_fits = record {
  owners = refl;
  values = refl;
  roles = refl;
  named = refl;
  old = tt;
  each = λ v among. absurd among;
}

-- ---- the function
module _ (form : Form) (p : Program) (sound : IsSound p) (narrow : length p.sizes < 2 ^ 64) where
  abbrev entry_scope : Scope
  entry_scope = numbered (numbered first_scope)

  abbrev nodes : List Node
  nodes = step_nodes form p.steps (body_place p)

  abbrev layer : Body-F Body Node
  layer = record { args = arguments 0 p.sizes; nodes = nodes }

  abbrev body : Body
  body = roll-Body layer

  abbrev function : Node
  function = function_node form p

  abbrev inputs : List TypeText
  inputs = map (λ size. type_of (buffer size)) p.sizes

  body_out : out-Body body ≡ layer
  body_out = out-roll-Body layer

  regions_are : (out-Node function).regions ≡ body ∷ []
  regions_are = outer_regions (codes "func.func") (function_properties p) body

  small : IsSmall (last_place p)
  small = small_places p sound narrow

  -- ---- rules
  new_hold : are_new [] [] (out-Node function).regions ≡ true
  new_hold =
      ap (are_new [] []) regions_are
      ∙ ap (λ (b : Body-F Body Node). are_fresh [] [] b.args && true) body_out
      ∙ ap (λ b. b && true) (arguments_fresh p.sizes 0 [] tt (omega (arith, narrow)))

  abbrev args_test : Option (List TypeText) → List BodyArg → Bool
  args_test types args = list_all (λ (arg : BodyArg). is_type arg.ty) args && are_inputs types args

  types_hold : has_function_types function ≡ true
  unfolding outer_node out-Node roll-Node denote.Hole.Carrier.out denote.Hole.Carrier.roll
  types_hold =
      ap (λ (rs : List Body). list_all (λ (b : Body). args_test (inputs_in_type (out-TypeText (text.Func inputs []))) (out-Body b).args) rs && true && true) regions_are
      ∙ ap (λ (b : Body-F Body Node). (args_test (inputs_in_type (out-TypeText (text.Func inputs []))) b.args && true) && true && true) body_out
      ∙ ap (λ (t : TypeText-F TypeText). (args_test (inputs_in_type t) (arguments 0 p.sizes) && true) && true && true) (func_out inputs)
      ∙ ap (λ b. ((b && pointwise (λ (ty : TypeText) (arg : BodyArg). same_type ty arg.ty) inputs (arguments 0 p.sizes)) && true) && true && true) (types_are p.sizes 0)
      ∙ ap (λ b. (b && true) && true && true) (inputs_are p.sizes 0)

  entries_hold : has_function_entries function ≡ true
  unfolding outer_node out-Node roll-Node denote.Hole.Carrier.out denote.Hole.Carrier.roll
  entries_hold =
      ap (λ b. b && is_some (results_in_type (out-TypeText (text.Func inputs [])))) sound.name
      ∙ ap (λ (t : TypeText-F TypeText). is_some (results_in_type t)) (func_out inputs)

  end_hold : end_with (codes "func.return") (out-Node function).regions ≡ true
  end_hold =
      ap (end_with (codes "func.return")) regions_are
      ∙ ap (λ (b : Body-F Body Node). is_last (ends_as (codes "func.return")) b.nodes && true) body_out
      ∙ ap (λ b. b && true) (last_step form p.steps (body_place p))

  limits_hold : are_within_limits function ≡ true
  limits_hold =
      ap (λ (rs : List Body). list_all (λ (b : Body). list_all (λ (arg : BodyArg). is_within_limits arg.ty) (out-Body b).args) rs) regions_are
      ∙ ap (λ (b : Body-F Body Node). list_all (λ (arg : BodyArg). is_within_limits arg.ty) b.args && true) body_out
      ∙ ap (λ b. b && true) (limits_are p.sizes 0 sound.sizes)

  function_hold : AllHold (function_rules (are_new [] [] (out-Node function).regions) function)
  unfolding outer_node out-Node roll-Node denote.Hole.Carrier.out denote.Hole.Carrier.roll
  function_hold = (
    refl,
    (
      refl,
      (
        refl,
        (
          new_hold,
          (
            types_hold,
            (
              refl,
              (
                entries_hold,
                (
                  end_hold,
                  (
                    ap (λ (rs : List Body). length rs == 1) regions_are,
                    (
                      limits_hold,
                      (ap is_without_results (func_out inputs), tt),
                    ),
                  ),
                ),
              ),
            ),
          ),
        ),
      ),
    ),
  )

  -- ---- the body
  abbrev start : Scope
  start = with_arguments entry_scope Plain (arguments 0 p.sizes)

  start_fits : Fits start (range_with_len 0 (length p.sizes)) (body_place p)
  start_fits =
      buffers_again p.sizes entry_scope [] first_place first_fits (small_before (body_place p) (last_place p) (before_steps p.steps (body_place p)) small) sound.sizes

  inner : AreSteps form 37 start (body_place p) p.steps
  inner = steps_again form 37 p.steps start (range_with_len 0 (length p.sizes)) (body_place p) start_fits small sound.steps

  abbrev after : Scope
  after = closed entry_scope inner.after

  region_again : region_with (operation_with (loop_of 38)) Plain entry_scope body ≡ step (func_of p).body after
  unfolding region_with
  region_again =
      ap (λ (b : Body-F Body Node). walk.next (in_order (operation_with (loop_of 38)) [] (with_arguments entry_scope Plain b.args) b.nodes)
      (λ s. step (region_of (argument_values 0 b.args) s.given) (closed entry_scope s.scope))) body_out
      ∙ ap (λ (o : Outcome (Step (List Op))). walk.next o (λ s. step (region_of (argument_values 0 (arguments 0 p.sizes)) s.given) (closed entry_scope s.scope))) (inner.gives [])
      ∙ ap (λ (vs : List ValueId). step (region_of vs (step_ops p.steps (body_place p))) after) (values_are p.sizes 0 0)

  function_again : function_of 38 (numbered first_scope) function ≡ step (func_of p) after
  unfolding function_of outer_node out-Node roll-Node denote.Hole.Carrier.out denote.Hole.Carrier.roll passed
  function_again =
      let within = only_region (region_with (operation_with (loop_of 38)) Plain) in
      all_checked 1 (function_rules (are_new [] [] (out-Node function).regions) function)
      (walk.next (within entry_scope (out-Node function).regions) (λ s. step (rules.func_of function 1 s.scope.values s.given) s.scope)) function_hold
      ∙ ap (λ (rs : List Body). walk.next (within entry_scope rs) (λ s. step (rules.func_of function 1 s.scope.values s.given) s.scope)) regions_are
      ∙ ap (λ (o : Outcome (Step Region)). walk.next o (λ s. step (rules.func_of function 1 s.scope.values s.given) s.scope)) region_again
      ∙ ap (λ (l : List Ty). step (rules.func_of function 1 l (func_of p).body) after) inner.fits.values

  -- ---- the module
  abbrev root : Node
  root = (read_tree form p).root

  abbrev module_layer : Body-F Body Node
  module_layer = record { args = []; nodes = function ∷ [] }

  root_regions : (out-Node root).regions ≡ roll-Body module_layer ∷ []
  root_regions = outer_regions (codes "builtin.module") [] (roll-Body module_layer)

  only_here : only_function root ≡ Some function
  only_here = ap only_in root_regions ∙ ap (λ (b : Body-F Body Node). only_node b.nodes) (out-roll-Body module_layer)

  module_hold : AllHold (module_rules root Run)
  unfolding outer_node out-Node roll-Node denote.Hole.Carrier.out denote.Hole.Carrier.roll
  module_hold = (
    refl,
    (
      refl,
      (
        refl,
        (
          refl,
          (
            ap (is_only (λ (b : Body). length (out-Body b).args == 0)) root_regions
                ∙ ap (λ (b : Body-F Body Node). length b.args == 0) (out-roll-Body module_layer),
            (ap is_some only_here, (refl, tt)),
          ),
        ),
      ),
    ),
  )

  pub module_again : elaborated (read_tree form p) Run ≡ gives (module_of p)
  unfolding elaborated walk.module_of passed
  module_again =
      all_checked 0 (module_rules root Run) (walk.module_of Run (only_function root)) module_hold
      ∙ ap (walk.module_of Run) only_here
      ∙ ap (λ (o : Outcome (Step Func)). walk.next o (λ s. let m : Module = record { funcs = s.given ∷ []; owners = s.scope.owners } in gives m)) function_again
      ∙ ap (λ (owners : List ℕ). let m : Module = record { funcs = func_of p ∷ []; owners = owners } in gives m) inner.fits.owners

-- the tree as which a sound program is read again, in either form, gives its module
pub read_again : ReadLaw
read_again form p sound narrow = module_again form p sound narrow
