-- The operations of a loop that are read again are those of its lines.
use Rattle.std.proofs.Common.{◌≡◌, ◌∙◌, ℕ, ◌<◌, ◌^◌, Bool, true, false, List, [], ◌∷◌, ◌++◌, append-nil, Some, map, length, drop, refl, ap, sym, subst}
use Rattle.std.specs.Prelude.{not, ◌&&◌, ◌==◌, Option, is_some, unwrap_or, slice_get, codes}
use Rattle.std.specs.Option.{option_and_then, option_map_or}
use Rattle.std.specs.Cmp.Lexicographic.{pointwise}
use Rattle.std.proofs.lemmas.Bool.{eq-eqb}
use Rattle.std.proofs.lemmas.List.{length-replicate}
use Rattle.std.proofs.lemmas.Option.{slice_get-get_or}
use Rattle.av_bits.specs.declared.types.Width.TheVariants.{W1, W8, W16, W32, W64}
use Rattle.av_bits.specs.declared.types.BinOp.TheVariants.{Addi}
use Rattle.av_ir.specs.declared.ty.Elem.{Elem}
use Rattle.av_ir.specs.declared.ty.Elem.TheVariants.{Int, Index}
use Rattle.av_ir.specs.declared.ty.Ty.{Ty}
use Rattle.av_ir.specs.declared.ty.Ty.TheVariants as ty
use Rattle.av_ir.specs.declared.module.ValueId.{ValueId}
use Rattle.av_ir.specs.declared.module.Const.TheVariants.{Splat}
use Rattle.av_ir.specs.declared.module.OpKind.TheVariants.{ArithConstant, ArithBinary, AffineLoad, AffineStore}
use Rattle.av_ir.specs.declared.module.Op.{Op}
use Rattle.av_tree.specs.declared.attribute.Named.{Named}
use Rattle.av_tree.specs.declared.node.Body.{Body}
use Rattle.av_tree.specs.declared.node.Node.{Node, Node-F, out-Node, roll-Node, out-roll-Node}
use Rattle.av_tree.specs.declared.written.TypeText.{TypeText}
use Rattle.av_printer.specs.declared.form.Form.{Form}
use Rattle.av_printer.specs.declared.form.Form.TheVariants as forms
use Rattle.av_totree.specs.Names.{operation_name}
use Rattle.av_totree.specs.Types.{type_of}
use Rattle.av_verify.specs.Parts.{MapUse, Dimension, Plain, Scope, Load, Store}
use Rattle.av_verify.specs.Accesses.{operand_type, rank_of, is_buffer, elem_of_buffer, after_first, used_map, load_agrees, load_rules, load_with, load_op, loaded_elem, store_agrees, store_rules, store_with, store_op}
use Rattle.av_verify.specs.Arith.{operands_of, constant_rules, constant_op, constant_elem, only_agrees, alike, binary_agrees, binary_rules, binary_op, left_elem, first_elem}
use Rattle.av_verify.specs.Elaboration.{Outcome, Step, step, numbered, known_with, operation_with}
use Rattle.av_verify.specs.Entries.{marks_of, marked}
use Rattle.av_verify.specs.Maps.{has_arity, are_map_operands}
use Rattle.av_verify.specs.Names.{Binding, binds, is_visible, are_visible, values_named}
use Rattle.av_verify.specs.Ops.{op_of, no_marks}
use Rattle.av_verify.specs.Results.{result_name, use_name}
use Rattle.av_verify.specs.Scopes.{defined, next_value, agrees_at}
use Rattle.av_verify.specs.Types.{is_elem, scalar_of, agrees}
use Rattle.av_program_laws.specs.Programs.{Subscript, fixed, variable, plus, minus, Line, constant, sum, load, store}
use Rattle.av_program_laws.specs.Walks.{Place, element, buffer, name_at, type_at, next, with_result, after_line}
use Rattle.av_program_laws.specs.Modules.{value, op, subscript_map, subscript_values, access_mark, line_op}
use Rattle.av_program_laws.specs.WrittenTrees.{constant_node}
use Rattle.av_program_laws.specs.WrittenTrees as written
use Rattle.av_program_laws.specs.ReadTrees as read
use Rattle.av_program_laws.specs.ReadTrees.{node, if_generic, subscript_types, line_node}
use Rattle.av_program_laws.specs.Sound.{IsAmong, Stands, IsPattern, IsSoundSubscript, IsSoundLine, visible_after}
use Rattle.av_program_laws.proofs.AgainNames.{one_named, used_itself}
use Rattle.av_program_laws.proofs.AgainRules.{AllHold, all_checked, both_true, some_there, two_there, small_mark, pattern_fits, pattern_again}
use Rattle.av_program_laws.proofs.AgainScopes.{among_before, get_before, Fits, names_with, fits_passed, operation_new, fits_result, visible_here, value_here, typed_here}
use Rattle.av_program_laws.proofs.AgainSubscripts.{affine_map, normal_map_is, arity_here, few_here, dimensions_here}

-- ---- nodes without regions
pub written_regions : (name : List ℕ) (place : Place) (operands : List ℕ) (results : List (List ℕ)) (types : List Ty) (properties marks : List Named) (regions : List Body)
    → (out-Node (written.node name place operands results types properties marks regions)).regions ≡ regions
unfolding written.node
written_regions name place operands results types properties marks regions = ap (λ (x : Node-F Body Node). x.regions) (out-roll-Node (record {
  name = name;
  place = 0;
  results = results;
  operands = map (name_at place) operands;
  properties = properties;
  attrs = marks;
  regions = regions;
  in_types = map (λ value. Some (type_of (type_at place value))) operands;
  out_types = map (λ ty. Some (type_of ty)) types;
}))

pub read_regions : (name : List ℕ) (place : Place) (operands : List ℕ) (in_types : List (Option TypeText)) (results : List (List ℕ)) (out_types : List (Option TypeText))
    (properties marks : List Named) (regions : List Body)
    → (out-Node (node name place operands in_types results out_types properties marks regions)).regions ≡ regions
unfolding node
read_regions name place operands in_types results out_types properties marks regions = ap (λ (x : Node-F Body Node). x.regions) (out-roll-Node (record {
  name = name;
  place = 0;
  results = results;
  operands = map (name_at place) operands;
  properties = properties;
  attrs = marks;
  regions = regions;
  in_types = in_types;
  out_types = out_types;
}))

-- a type that a form may leave out agrees as it does where it is written
agrees_if_generic : (form : Form) (w : Option TypeText) (t : Ty) → agrees w t ≡ true → agrees (if_generic form w) t ≡ true
agrees_if_generic forms.Named w t h = refl
agrees_if_generic forms.Generic w t h = h

pub none_here : (regions : List Body) → regions ≡ [] → (length regions == 0) ≡ true
none_here regions is = ap (λ (l : List Body). length l == 0) is

-- ---- places
-- a place at which names still differ, and numbers are those of marks
pub record IsSmall (place : Place) : Type 0 where
  pub arguments : place.arguments < 10 ^ 64
  pub operations : place.operations < 10 ^ 64
  pub number : place.number < 2 ^ 64
  pub loops : place.loops < 2 ^ 64

-- operations are numbered in order
pub counted_here : (scope : Scope) (visible : List ℕ) (place : Place) → Fits scope visible place → length scope.owners ≡ place.number
counted_here scope visible place h = ap length h.owners ∙ length-replicate place.number 0

module _ (form : Form) (loop : ℕ → Scope → Node → Outcome (Step Op)) (scope : Scope) (visible : List ℕ) (place : Place) (h : Fits scope visible place) (small : IsSmall place) where
  abbrev S : Scope
  S = numbered scope

  abbrev name : List ℕ
  name = operation_name place.operations

  counted : length scope.owners ≡ place.number
  counted = counted_here scope visible place h

  pub next_is : next_value S ≡ value (next place)
  next_is = ap (λ (l : List Ty). value (length l)) h.values

  name_new : is_visible scope.names name ≡ false
  name_new = operation_new scope visible place h small.arguments small.operations

  new_rule : not (is_visible scope.names (use_name name)) ≡ true
  new_rule = ap (λ n. not (is_visible scope.names n)) (used_itself place.operations small.operations) ∙ ap not name_new

  -- ---- constants
  abbrev constant_entries : ℕ → List Named
  constant_entries pattern = written.entry (codes "value") (written.constant_attr pattern) ∷ []

  constant_hold : (pattern : ℕ) → IsPattern pattern → AllHold (constant_rules S (constant_node pattern place))
  unfolding constant_node written.node out-Node roll-Node denote.Hole.Carrier.out denote.Hole.Carrier.roll
  constant_hold pattern below =
      let plain = none_here (out-Node (constant_node pattern place)).regions
      (written_regions (codes "arith.constant") place [] (written.next_name place) (element ∷ []) (constant_entries pattern) [] []) in
      (refl, (one_named place.operations small.operations, (new_rule, (refl, (refl, (refl, (plain, (pattern_fits pattern below, tt))))))))

  pub constant_again : (is_last : Bool) (pattern : ℕ) → IsPattern pattern
      → operation_with loop is_last scope (constant_node pattern place)
      ≡ step (op place.number (ArithConstant (Splat pattern)) [] (next place ∷ []) [] no_marks) (defined S name element Plain)
  unfolding constant_node written.node out-Node roll-Node denote.Hole.Carrier.out denote.Hole.Carrier.roll operation_with known_with op op_of
  constant_again is_last pattern below =
      let node = constant_node pattern place in
      let number = length scope.owners in
      all_checked number (constant_rules S node) (step (constant_op S node number) (defined S (result_name node) (ty.Scalar (constant_elem node)) Plain)) (constant_hold pattern below)
      ∙ ap (λ n. step (constant_op S node number) (defined S n element Plain)) (used_itself place.operations small.operations)
      ∙ ap (λ p. step (op_of number (ArithConstant (Splat p)) [] (next_value S ∷ []) [] no_marks) (defined S name element Plain)) (pattern_again pattern below)
      ∙ ap (λ n. step (op_of n (ArithConstant (Splat pattern)) [] (next_value S ∷ []) [] no_marks) (defined S name element Plain)) counted
      ∙ ap (λ v. step (op_of place.number (ArithConstant (Splat pattern)) [] (v ∷ []) [] no_marks) (defined S name element Plain)) next_is

  -- ---- sums
  abbrev types_agree : Option Ty → Option Ty → Option TypeText → Bool
  types_agree l r w =
      alike (option_and_then scalar_of l) (option_and_then scalar_of r)
      && only_agrees (ty.Scalar (unwrap_or (option_and_then scalar_of l) Index)) (w ∷ [])
      && (option_map_or (agrees w) l false && (option_map_or (agrees w) r false && true))

  sums_agree : (elem : Elem) → types_agree (Some (ty.Scalar elem)) (Some (ty.Scalar elem)) (Some (type_of (ty.Scalar elem))) ≡ true
  sums_agree Index = refl
  sums_agree (Int W1) = refl
  sums_agree (Int W8) = refl
  sums_agree (Int W16) = refl
  sums_agree (Int W32) = refl
  sums_agree (Int W64) = refl

  module _ (counter left right : ℕ) (elem : Elem) (first : Stands visible place left (ty.Scalar elem)) (second : Stands visible place right (ty.Scalar elem)) where
    abbrev sum_node : Node
    sum_node = line_node form counter (sum left right) place

    abbrev sum_values : List ValueId
    sum_values = value left ∷ value right ∷ []

    sum_operands : values_named scope.names (name_at place left ∷ name_at place right ∷ []) ≡ sum_values
    sum_operands =
        ap (λ v. v ∷ values_named scope.names (name_at place right ∷ [])) (value_here scope visible place h left first.0)
        ∙ ap (λ v. value left ∷ v ∷ []) (value_here scope visible place h right second.0)

    sum_types : binary_agrees scope.values sum_node (operands_of S sum_node) ≡ true
    unfolding line_node node out-Node roll-Node denote.Hole.Carrier.out denote.Hole.Carrier.roll
    sum_types =
        ap (binary_agrees scope.values sum_node) sum_operands
        ∙ ap (λ t. types_agree (slice_get scope.values left) (slice_get scope.values right) (Some (type_of t))) first.2
        ∙ ap (λ l. types_agree l (slice_get scope.values right) (Some (type_of (ty.Scalar elem)))) (typed_here scope visible place h left (ty.Scalar elem) first)
        ∙ ap (λ r. types_agree (Some (ty.Scalar elem)) r (Some (type_of (ty.Scalar elem)))) (typed_here scope visible place h right (ty.Scalar elem) second)
        ∙ sums_agree elem

    sum_visible : are_visible scope.names (name_at place left ∷ name_at place right ∷ []) ≡ true
    sum_visible =
        both_true (is_visible scope.names (name_at place left)) (is_visible scope.names (name_at place right) && true) (visible_here scope visible place h left first.0)
        (both_true (is_visible scope.names (name_at place right)) true (visible_here scope visible place h right second.0) refl)

    sum_hold : AllHold (binary_rules Addi S sum_node)
    unfolding line_node node out-Node roll-Node denote.Hole.Carrier.out denote.Hole.Carrier.roll
    sum_hold =
        let plain = none_here (out-Node sum_node).regions
        (read_regions (codes "arith.addi") place (left ∷ right ∷ []) (read.written place left ∷ read.written place left ∷ []) (written.next_name place)
        (read.written place left ∷ []) [] [] []) in
        (refl, (one_named place.operations small.operations, (sum_visible, (new_rule, (sum_types, (refl, (refl, (plain, tt))))))))

    sum_elem : left_elem S sum_node ≡ elem
    unfolding line_node node out-Node roll-Node denote.Hole.Carrier.out denote.Hole.Carrier.roll
    sum_elem =
        ap (first_elem scope.values) sum_operands
        ∙ ap (λ o. unwrap_or (option_and_then scalar_of o) Index) (typed_here scope visible place h left (ty.Scalar elem) first)

    pub sum_again : (is_last : Bool) → operation_with loop is_last scope sum_node
        ≡ step (op place.number (ArithBinary Addi) (left ∷ right ∷ []) (next place ∷ []) [] no_marks) (defined S name (type_at place left) Plain)
    unfolding line_node node out-Node roll-Node denote.Hole.Carrier.out denote.Hole.Carrier.roll operation_with known_with op op_of
    sum_again is_last =
        let number = length scope.owners in
        all_checked number (binary_rules Addi S sum_node) (step (binary_op Addi S sum_node number) (defined S (result_name sum_node) (ty.Scalar (left_elem S sum_node)) Plain)) sum_hold
        ∙ ap (λ n. step (binary_op Addi S sum_node number) (defined S n (ty.Scalar (left_elem S sum_node)) Plain)) (used_itself place.operations small.operations)
        ∙ ap (λ e. step (binary_op Addi S sum_node number) (defined S name (ty.Scalar e) Plain)) sum_elem
        ∙ ap (λ t. step (binary_op Addi S sum_node number) (defined S name t Plain)) (sym first.2)
        ∙ ap (λ vs. step (op_of number (ArithBinary Addi) vs (next_value S ∷ []) [] no_marks) (defined S name (type_at place left) Plain)) sum_operands
        ∙ ap (λ n. step (op_of n (ArithBinary Addi) sum_values (next_value S ∷ []) [] no_marks) (defined S name (type_at place left) Plain)) counted
        ∙ ap (λ v. step (op_of place.number (ArithBinary Addi) sum_values (v ∷ []) [] no_marks) (defined S name (type_at place left) Plain)) next_is

  -- ---- accesses, in the loop of a variable
  module _ (counter : ℕ) (role : slice_get scope.roles counter ≡ Some Dimension) (counts : slice_get scope.values counter ≡ Some (ty.Scalar Index))
      (among : IsAmong visible counter) (at : Subscript) (sound : IsSoundSubscript at) where
    abbrev used_names : List (List ℕ)
    used_names = map (name_at place) (subscript_values counter at)

    abbrev used_values : List ValueId
    used_values = map value (subscript_values counter at)

    used_named : values_named scope.names used_names ≡ used_values
    used_named = by at
      where
        alone : values_named scope.names (name_at place counter ∷ []) ≡ value counter ∷ []
        alone = ap (λ v. v ∷ []) (value_here scope visible place h counter among)

        by : (at : Subscript) → values_named scope.names (map (name_at place) (subscript_values counter at)) ≡ map value (subscript_values counter at)
        by (fixed z) = refl
        by variable = alone
        by (plus z) = alone
        by (minus z) = alone

    used_visible : are_visible scope.names used_names ≡ true
    used_visible = by at
      where
        alone : are_visible scope.names (name_at place counter ∷ []) ≡ true
        alone = both_true (is_visible scope.names (name_at place counter)) true (visible_here scope visible place h counter among) refl

        by : (at : Subscript) → are_visible scope.names (map (name_at place) (subscript_values counter at)) ≡ true
        by (fixed z) = refl
        by variable = alone
        by (plus z) = alone
        by (minus z) = alone

    counter_typed : type_at place counter ≡ ty.Scalar Index
    counter_typed =
        ap (λ o. unwrap_or o (ty.Scalar Index))
        (sym (slice_get-get_or place.types counter (ty.Scalar Index) (h.each counter among).0) ∙ ap (λ (l : List Ty). slice_get l counter) (sym h.values) ∙ counts)

    abbrev used_types : List (Option TypeText)
    used_types = subscript_types form place (subscript_values counter at)

    used_typed : pointwise (agrees_at scope.values) used_types used_values ≡ true
    used_typed = by at
      where
        alone : pointwise (agrees_at scope.values) (subscript_types form place (counter ∷ [])) (value counter ∷ []) ≡ true
        alone =
            ap (λ o. option_map_or (agrees (if_generic form (read.written place counter))) o false && true) counts
            ∙ ap (λ b. b && true)
            (agrees_if_generic form (read.written place counter) (ty.Scalar Index) (ap (λ t. agrees (Some (type_of t)) (ty.Scalar Index)) counter_typed))

        by : (at : Subscript) → pointwise (agrees_at scope.values) (subscript_types form place (subscript_values counter at)) (map value (subscript_values counter at)) ≡ true
        by (fixed z) = refl
        by variable = alone
        by (plus z) = alone
        by (minus z) = alone

    abbrev access_entries : List Named
    access_entries = written.map_entry (codes "map") (written.subscript_map at) ∷ []

    abbrev access_marks : List Named
    access_marks = written.mark (codes "affvec.of") place.number

    -- ---- loads
    module _ (from size : ℕ) (first : Stands visible place from (buffer size)) where
      abbrev load_node : Node
      load_node = line_node form counter (load from at) place

      abbrev load_values : List ValueId
      load_values = value from ∷ used_values

      load_operands : operands_of S load_node ≡ load_values
      unfolding line_node node out-Node roll-Node denote.Hole.Carrier.out denote.Hole.Carrier.roll
      load_operands =
          ap (λ v. v ∷ values_named scope.names used_names) (value_here scope visible place h from first.0) ∙ ap (λ vs. value from ∷ vs) used_named

      load_typed : slice_get scope.values from ≡ Some (buffer size)
      load_typed = typed_here scope visible place h from (buffer size) first

      abbrev element_text : Option TypeText
      element_text = if_generic form (Some (type_of element))

      abbrev load_test : Option Ty → Option TypeText → Bool
      load_test o w =
          is_buffer o && only_agrees (ty.Scalar (elem_of_buffer o)) (element_text ∷ [])
          && (option_map_or (agrees w) o false && pointwise (agrees_at scope.values) used_types used_values)

      abbrev from_test : Bool
      from_test = agrees (Some (type_of (buffer size))) (buffer size)

      load_types : load_agrees scope.values load_node (operands_of S load_node) ≡ true
      unfolding line_node node out-Node roll-Node denote.Hole.Carrier.out denote.Hole.Carrier.roll
      load_types =
          ap (load_agrees scope.values load_node) load_operands
          ∙ ap (λ t. load_test (slice_get scope.values from) (Some (type_of t))) first.2
          ∙ ap (λ o. load_test o (Some (type_of (buffer size)))) load_typed
          ∙ ap (λ b. b && (from_test && pointwise (agrees_at scope.values) used_types used_values)) (agrees_if_generic form (Some (type_of element)) element refl)
          ∙ ap (λ b. (b && true) && pointwise (agrees_at scope.values) used_types used_values) (eq-eqb size size refl)
          ∙ used_typed

      load_hold : AllHold (load_rules S load_node)
      unfolding line_node node out-Node roll-Node denote.Hole.Carrier.out denote.Hole.Carrier.roll
      load_hold =
          let plain = none_here (out-Node load_node).regions
          (read_regions (codes "affine.load") place (from ∷ subscript_values counter at) (read.written place from ∷ used_types)
          (written.next_name place) (element_text ∷ []) access_entries access_marks []) in
          let m = Some (written.subscript_map at) in (
            some_there (name_at place from) used_names,
            (
              one_named place.operations small.operations,
              (
                both_true (is_visible scope.names (name_at place from)) (are_visible scope.names used_names) (visible_here scope visible place h from first.0) used_visible,
                (
                  new_rule,
                  (
                    load_types,
                    (
                      refl,
                      (
                        ap (λ o. is_some o && true && true) (small_mark place.number small.number),
                        (
                          ap (λ vs. has_arity m (length (drop 1 vs)) (rank_of (operand_type scope.values vs 0))) load_operands
                              ∙ ap (λ o. has_arity m (length used_values) (rank_of o)) load_typed ∙ arity_here counter at,
                          (
                            ap (λ vs. are_map_operands scope.roles m (drop 1 vs)) load_operands ∙ dimensions_here scope.roles counter at role,
                            (plain, (affine_map at sound, (few_here at, tt))),
                          ),
                        ),
                      ),
                    ),
                  ),
                ),
              ),
            ),
          )

      load_elem : loaded_elem S load_node ≡ Int W32
      unfolding line_node node out-Node roll-Node denote.Hole.Carrier.out denote.Hole.Carrier.roll
      load_elem = ap (λ vs. elem_of_buffer (operand_type scope.values vs 0)) load_operands ∙ ap elem_of_buffer load_typed

      abbrev load_map : MapUse
      load_map = record { map = subscript_map at; operands = load_values }

      load_used : used_map load_node (operands_of S load_node) 1 ≡ load_map
      unfolding line_node node out-Node roll-Node denote.Hole.Carrier.out denote.Hole.Carrier.roll
      load_used = ap (λ vs. used_map load_node vs 1) load_operands ∙ ap (after_first 1 load_values) (normal_map_is counter at)

      load_marks : marks_of Load load_node ≡ access_mark place.number
      unfolding line_node node out-Node roll-Node denote.Hole.Carrier.out denote.Hole.Carrier.roll
      load_marks = ap (marked Load) (small_mark place.number small.number)

      pub load_again : (is_last : Bool) → operation_with loop is_last scope load_node
          ≡ step (op place.number (AffineLoad (subscript_map at)) (from ∷ subscript_values counter at) (next place ∷ []) [] (access_mark place.number)) (defined S name element Plain)
      unfolding line_node node out-Node roll-Node denote.Hole.Carrier.out denote.Hole.Carrier.roll operation_with known_with op op_of
      load_again is_last =
          let number = length scope.owners in
          let after = defined S name element Plain in
          let kind = AffineLoad (subscript_map at) in
          all_checked number (load_rules S load_node) (step (load_op S load_node number) (defined S (result_name load_node) (ty.Scalar (loaded_elem S load_node)) Plain)) load_hold
          ∙ ap (λ n. step (load_op S load_node number) (defined S n (ty.Scalar (loaded_elem S load_node)) Plain)) (used_itself place.operations small.operations)
          ∙ ap (λ e. step (load_op S load_node number) (defined S name (ty.Scalar e) Plain)) load_elem
          ∙ ap (λ u. step (load_with number (next_value S) load_node u) after) load_used
          ∙ ap (λ m. step (op_of number kind load_values (next_value S ∷ []) [] m) after) load_marks
          ∙ ap (λ n. step (op_of n kind load_values (next_value S ∷ []) [] (access_mark place.number)) after) counted
          ∙ ap (λ v. step (op_of place.number kind load_values (v ∷ []) [] (access_mark place.number)) after) next_is

    -- ---- stores
    module _ (stored into size : ℕ) (first : Stands visible place stored element) (second : Stands visible place into (buffer size)) where
      abbrev store_node : Node
      store_node = line_node form counter (store stored into at) place

      abbrev store_values : List ValueId
      store_values = value stored ∷ value into ∷ used_values

      store_operands : operands_of S store_node ≡ store_values
      unfolding line_node node out-Node roll-Node denote.Hole.Carrier.out denote.Hole.Carrier.roll
      store_operands =
          ap (λ v. v ∷ values_named scope.names (name_at place into ∷ used_names)) (value_here scope visible place h stored first.0)
          ∙ ap (λ v. value stored ∷ v ∷ values_named scope.names used_names) (value_here scope visible place h into second.0)
          ∙ ap (λ vs. value stored ∷ value into ∷ vs) used_named

      stored_typed : slice_get scope.values stored ≡ Some element
      stored_typed = typed_here scope visible place h stored element first

      into_typed : slice_get scope.values into ≡ Some (buffer size)
      into_typed = typed_here scope visible place h into (buffer size) second

      abbrev stored_text : Option TypeText
      stored_text = if_generic form (read.written place stored)

      abbrev store_test : Option Ty → Option Ty → Option TypeText → Bool
      store_test s b w =
          is_buffer b && option_map_or (is_elem (elem_of_buffer b)) (option_and_then scalar_of s) false && true
          && (option_map_or (agrees stored_text) s false
          && (option_map_or (agrees w) b false && pointwise (agrees_at scope.values) used_types used_values))

      abbrev into_test : Bool
      into_test = agrees (Some (type_of (buffer size))) (buffer size)

      stored_agrees : agrees stored_text element ≡ true
      stored_agrees = agrees_if_generic form (read.written place stored) element (ap (λ t. agrees (Some (type_of t)) element) first.2)

      store_types : store_agrees scope.values store_node (operands_of S store_node) ≡ true
      unfolding line_node node out-Node roll-Node denote.Hole.Carrier.out denote.Hole.Carrier.roll
      store_types =
          ap (store_agrees scope.values store_node) store_operands
          ∙ ap (λ t. store_test (slice_get scope.values stored) (slice_get scope.values into) (Some (type_of t))) second.2
          ∙ ap (λ s. store_test s (slice_get scope.values into) (Some (type_of (buffer size)))) stored_typed
          ∙ ap (λ b. store_test (Some element) b (Some (type_of (buffer size)))) into_typed
          ∙ ap (λ b. b && (into_test && pointwise (agrees_at scope.values) used_types used_values)) stored_agrees
          ∙ ap (λ b. (b && true) && pointwise (agrees_at scope.values) used_types used_values) (eq-eqb size size refl)
          ∙ used_typed

      store_visible : are_visible scope.names (name_at place stored ∷ name_at place into ∷ used_names) ≡ true
      store_visible =
          both_true (is_visible scope.names (name_at place stored)) (is_visible scope.names (name_at place into) && are_visible scope.names used_names)
          (visible_here scope visible place h stored first.0)
          (both_true (is_visible scope.names (name_at place into)) (are_visible scope.names used_names) (visible_here scope visible place h into second.0) used_visible)

      store_hold : AllHold (store_rules S store_node)
      unfolding line_node node out-Node roll-Node denote.Hole.Carrier.out denote.Hole.Carrier.roll
      store_hold =
          let plain = none_here (out-Node store_node).regions
          (read_regions (codes "affine.store") place (stored ∷ into ∷ subscript_values counter at)
          (stored_text ∷ read.written place into ∷ used_types) [] [] access_entries access_marks []) in
          let m = Some (written.subscript_map at) in (
            two_there (name_at place stored) (name_at place into) used_names,
            (
              refl,
              (
                store_visible,
                (
                  store_types,
                  (
                    refl,
                    (
                      ap (λ o. is_some o && true && true) (small_mark place.number small.number),
                      (
                        ap (λ vs. has_arity m (length (drop 2 vs)) (rank_of (operand_type scope.values vs 1))) store_operands
                            ∙ ap (λ o. has_arity m (length used_values) (rank_of o)) into_typed ∙ arity_here counter at,
                        (
                          ap (λ vs. are_map_operands scope.roles m (drop 2 vs)) store_operands ∙ dimensions_here scope.roles counter at role,
                          (plain, (affine_map at sound, (few_here at, tt))),
                        ),
                      ),
                    ),
                  ),
                ),
              ),
            ),
          )

      abbrev store_map : MapUse
      store_map = record { map = subscript_map at; operands = store_values }

      store_used : used_map store_node (operands_of S store_node) 2 ≡ store_map
      unfolding line_node node out-Node roll-Node denote.Hole.Carrier.out denote.Hole.Carrier.roll
      store_used = ap (λ vs. used_map store_node vs 2) store_operands ∙ ap (after_first 2 store_values) (normal_map_is counter at)

      store_marks : marks_of Store store_node ≡ access_mark place.number
      unfolding line_node node out-Node roll-Node denote.Hole.Carrier.out denote.Hole.Carrier.roll
      store_marks = ap (marked Store) (small_mark place.number small.number)

      pub store_again : (is_last : Bool) → operation_with loop is_last scope store_node
          ≡ step (op place.number (AffineStore (subscript_map at)) (stored ∷ into ∷ subscript_values counter at) [] [] (access_mark place.number)) S
      unfolding line_node node out-Node roll-Node denote.Hole.Carrier.out denote.Hole.Carrier.roll operation_with known_with op op_of
      store_again is_last =
          let number = length scope.owners in
          let kind = AffineStore (subscript_map at) in
          all_checked number (store_rules S store_node) (step (store_op S store_node number) S) store_hold
          ∙ ap (λ u. step (store_with number store_node u) S) store_used
          ∙ ap (λ m. step (op_of number kind store_values [] [] m) S) store_marks
          ∙ ap (λ n. step (op_of n kind store_values [] [] (access_mark place.number)) S) counted

-- ---- lines
-- the node of a line gives its operation, and the scope behind it fits the place behind it
pub record IsLine (form : Form) (loop : ℕ → Scope → Node → Outcome (Step Op)) (counter : ℕ) (scope : Scope) (visible : List ℕ) (place : Place) (line : Line) : Type 0 where
  pub after : Scope
  pub gives : (is_last : Bool) → operation_with loop is_last scope (line_node form counter line place) ≡ step (line_op counter line place) after
  pub fits : Fits after (visible_after line place visible) (after_line line place)
  pub role : slice_get after.roles counter ≡ Some Dimension
  pub counts : slice_get after.values counter ≡ Some (ty.Scalar Index)
  pub more : List Binding
  pub longer : after.names ≡ scope.names ++ more
  pub among : IsAmong (visible_after line place visible) counter

module _ (form : Form) (loop : ℕ → Scope → Node → Outcome (Step Op)) (counter : ℕ) (scope : Scope) (visible : List ℕ) (place : Place) (h : Fits scope visible place) (small : IsSmall place)
    (role : slice_get scope.roles counter ≡ Some Dimension) (counts : slice_get scope.values counter ≡ Some (ty.Scalar Index)) (among : IsAmong visible counter) where
  fresh_here : is_visible scope.names (operation_name place.operations) ≡ false
  fresh_here = operation_new scope visible place h small.arguments small.operations

  result_line : (line : Line) (t : Ty) → after_line line place ≡ with_result t place → visible_after line place visible ≡ visible ++ next place ∷ []
      → ((is_last : Bool) → operation_with loop is_last scope (line_node form counter line place)
      ≡ step (line_op counter line place) (defined (numbered scope) (operation_name place.operations) t Plain))
      → IsLine form loop counter scope visible place line
  result_line line t after seen gives = record {
    after = defined (numbered scope) (operation_name place.operations) t Plain;
    gives = gives;
    fits =
        subst (λ (p : Place). Fits (defined (numbered scope) (operation_name place.operations) t Plain) (visible_after line place visible) p) (sym after)
        (subst (λ (l : List ℕ). Fits (defined (numbered scope) (operation_name place.operations) t Plain) l (with_result t place)) (sym seen)
        (fits_result scope visible place h t Plain fresh_here));
    role = get_before scope.roles (Plain ∷ []) counter Dimension role;
    counts = get_before scope.values (t ∷ []) counter (ty.Scalar Index) counts;
    more = binds (operation_name place.operations) (value (next place)) ∷ [];
    longer = names_with scope visible place h (operation_name place.operations) fresh_here;
    among = subst (λ (l : List ℕ). IsAmong l counter) (sym seen) (among_before visible (next place ∷ []) counter among);
  }

  pub line_again : (line : Line) → IsSoundLine visible place line → IsLine form loop counter scope visible place line
  unfolding line_op line_node after_line IsSoundLine
  line_again (constant pattern) sound =
      result_line (constant pattern) element refl refl (λ is_last. constant_again form loop scope visible place h small is_last pattern sound)
  line_again (sum left right) sound =
      result_line (sum left right) (type_at place left) refl refl (sum_again form loop scope visible place h small counter left right sound.0 sound.1 sound.2)
  line_again (load from at) sound =
      result_line (load from at) element refl refl (load_again form loop scope visible place h small counter role counts among at sound.1 from sound.0.0 sound.0.1)
  line_again (store stored into at) sound = record {
    after = numbered scope;
    gives = store_again form loop scope visible place h small counter role counts among at sound.2 stored into sound.1.0 sound.0 sound.1.1;
    fits = fits_passed scope visible place h;
    role = role;
    counts = counts;
    more = [];
    longer = sym (append-nil scope.names);
    among = among;
  }
