-- What the walk over operations keeps: each value has the type of an element or of a buffer, each operation defines values of the
-- function, is of Scalar mode, and its maps are within their limits. So what holds of such parts holds of a module that is given.
use Rattle.std.proofs.Common.{◌≡◌, ℕ, zero, suc, ◌+◌, ◌≤◌, ◌<◌, lit<, arith, Bool, true, false, List, [], ◌∷◌, ◌++◌, length, length-append, Option, Some, None}
use Rattle.std.specs.Prelude.{unwrap_or, ◌==◌, ◌&&◌, codes, drop}
use Rattle.std.specs.List.{All}
use Rattle.std.proofs.lemmas.List.Elements.{All-nil, All-cons, All-push}
use Rattle.av_ir.specs.declared.ty.Elem.{Elem}
use Rattle.av_ir.specs.declared.ty.Elem.TheVariants.{Index}
use Rattle.av_ir.specs.declared.ty.Extent.{Extent}
use Rattle.av_ir.specs.declared.ty.Ty.{Ty}
use Rattle.av_ir.specs.declared.ty.Ty.TheVariants as ty
use Rattle.av_ir.specs.declared.module.ValueId.{ValueId}
use Rattle.av_ir.specs.declared.module.Const.TheVariants.{Splat}
use Rattle.av_ir.specs.declared.module.Marks.{Marks}
use Rattle.av_ir.specs.declared.module.OpKind.{OpKind}
use Rattle.av_ir.specs.declared.module.OpKind.TheVariants.{ArithConstant, ArithBinary, AffineFor, AffineLoad, AffineStore, FuncReturn, AffineYield}
use Rattle.av_ir.specs.declared.module.Op.{Op}
use Rattle.av_ir.specs.declared.module.Func.{Func}
use Rattle.av_ir.specs.declared.module.Module as ir
use Rattle.av_ir.specs.declared.module.Region.{Region}
use Rattle.av_bits.specs.declared.types.BinOp.{BinOp}
use Rattle.av_tree.specs.declared.node.Node.{Node, out-Node}
use Rattle.av_tree.specs.declared.node.Body.{Body, out-Body}
use Rattle.av_tree.specs.declared.node.BodyArg.{BodyArg}
use Rattle.av_tree.specs.declared.node.Tree.{Tree}
use Rattle.av_tree.specs.declared.written.TypeText.{TypeText, Scalar, MemRef}
use Rattle.av_verify.specs.declared.module.Mode.{Mode}
use Rattle.av_verify.specs.declared.refusal.Code.TheVariants as code
use Rattle.av_verify.specs.declared.refusal.Rule.{Rule}
use Rattle.av_verify.specs.declared.rows.Row.{Row}
use Rattle.av_verify.specs.declared.rows.Row.TheVariants as row
use Rattle.av_verify.specs.declared.scope.Role.{Role}
use Rattle.av_verify.specs.declared.scope.Role.TheVariants.{Plain, Dimension}
use Rattle.av_verify.specs.declared.scope.Scope.{Scope}
use Rattle.av_verify.specs.Accesses.{access_map, has_few_results, normal_entry, used_map, load_rules, load_op, loaded_elem, store_rules, store_op}
use Rattle.av_verify.specs.Arith.{operands_of, constant_rules, constant_op, constant_elem, constant_pattern, binary_rules, binary_op, left_elem}
use Rattle.av_verify.specs.Codes.{asks, first_failing}
use Rattle.av_verify.specs.Elaboration.{Outcome, Step, gives, fails, next, checked, step, numbered, with_arguments, argument_values, closed, in_order, only_region, region_of, region_with, loop_with, loop_of, by_row, known_with, operation_with, function_of, module_of, elaborated}
use Rattle.av_verify.specs.Ends.{end_rules, end_op}
use Rattle.av_verify.specs.Entries.{marks_of, number_of, entry_of}
use Rattle.av_verify.specs.Expressions.{is_affine}
use Rattle.av_verify.specs.Loops.{are_new, loop_rules, loop_op, lower_map, upper_map, lower_values, upper_values, step_of}
use Rattle.av_verify.specs.Modules.{function_rules, func_of, module_rules, most_regions, only_function}
use Rattle.av_verify.specs.Ops.{op_of, no_marks}
use Rattle.av_verify.specs.Results.{result_name}
use Rattle.av_verify.specs.Rows.{row_of}
use Rattle.av_verify.specs.Scopes.{defined, first_scope, next_value}
use Rattle.av_verify.specs.Types.{elem_of, extents_of, memref_of, type_of}
use Rattle.av_verify.proofs.Given.{OnGiven, given, on_next, on_checked}
use Rattle.av_verify.proofs.Rules.{all_hold}
use Rattle.av_ir.specs.WellFormed.{HasUsableMaps, IsScalarKind}
use Rattle.av_verify.proofs.GoodMaps.{both, usable}

abbrev index : Ty
index = ty.Scalar Index

abbrev AreBelow : ℕ → List ValueId → Type 0
AreBelow count ids = All (λ id. id.0 < count) ids

module _ (IsGood : Ty → Type 0) (scalars : (elem : Elem) → IsGood (ty.Scalar elem)) (memrefs : (extents : List Extent) (elem : Elem) → IsGood (ty.MemRef extents elem))
    (CanRun : ℕ → Op → Type 0) (CanRunRegion : ℕ → Region → Type 0)
    (op_runs : (count number : ℕ) (kind : OpKind) (operands results : List ValueId) (regions : List Region) (marks : Marks)
    → HasUsableMaps kind → IsScalarKind kind → All (λ id. id.0 < count) results → All (CanRunRegion count) regions → CanRun count (op_of number kind operands results regions marks))
    (region_runs : (count : ℕ) (args : List ValueId) (ops : List Op) → All (λ id. id.0 < count) args → All (CanRun count) ops → CanRunRegion count (region_of args ops)) where
  -- ---- types
  memref_kept : (elem : Option Elem) (extents : Option (List Extent)) → IsGood (unwrap_or (memref_of elem extents) index)
  memref_kept (Some elem) (Some extents) = memrefs extents elem
  memref_kept (Some elem) None = scalars Index
  memref_kept None (Some extents) = scalars Index
  memref_kept None None = scalars Index

  scalar_kept : (elem : Option Elem) → IsGood (unwrap_or (elim elem [ Some e ↦ Some (ty.Scalar e) | None ↦ None ]) index)
  scalar_kept (Some elem) = scalars elem
  scalar_kept None = scalars Index

  type_kept : (t : TypeText) → IsGood (unwrap_or (type_of t) index)
  type_kept (Scalar name) = scalar_kept (elem_of name)
  type_kept (MemRef sizes name layout) = memref_kept (elem_of name) (extents_of sizes)
  type_kept _ = scalars Index

  -- ---- scopes
  -- the types of all values of a scope are good
  abbrev Flat : Scope → Type 0
  Flat scope = All IsGood scope.values

  -- what is given after a walk from a scope: there are no fewer values than before, all are of good types if all were, and what
  -- is given can be run where there are as many values
  record Holds {A : Type 0} (P : ℕ → A → Type 0) (before : Scope) (s : Step A) : Type 0 where
    more : length before.values ≤ length s.scope.values
    flat : Flat before → Flat s.scope
    runs : (count : ℕ) → length s.scope.values ≤ count → P count s.given

  abbrev AllRun : ℕ → List Op → Type 0
  AllRun count ops = All (CanRun count) ops

  -- one part of a walk and the next
  onward : {A B : Type 0} (P : ℕ → A → Type 0) (Q : ℕ → B → Type 0) (before : Scope) (s : Step A) (o : Outcome (Step B))
      → Holds P before s → OnGiven (Holds Q s.scope) o → OnGiven (Holds Q before) o
  onward P Q before s (gives t) h k = record {
    more = omega (arith, h.more, k.more);
    flat = λ f. k.flat (h.flat f);
    runs = k.runs;
  }
  onward P Q before s (fails number code) h k = tt

  -- one value more
  define : {A : Type 0} (P : ℕ → A → Type 0) (scope : Scope) (name : List ℕ) (t : Ty) (role : Role) (a : A) → IsGood t
      → ((count : ℕ) → length scope.values < count → P count a) → Holds P scope (record { given = a; scope = defined scope name t role })
  define P scope name t role a none h =
      let longer : length (scope.values ++ t ∷ []) ≡ length scope.values + 1 = length-append scope.values (t ∷ []) in
      record {
        more = omega (arith, longer);
        flat = λ f. All-push IsGood scope.values t f none;
        runs = λ count l. h count (omega (arith, longer, l));
      }

  -- the values stay
  stay : {A : Type 0} (P : ℕ → A → Type 0) (scope : Scope) (a : A) → ((count : ℕ) → P count a) → Holds P scope (record { given = a; scope = scope })
  stay P scope a h = record { more = omega arith; flat = λ f. f; runs = λ count l. h count }

  arguments_flat : (scope : Scope) (role : Role) (args : List BodyArg) → Flat scope → Flat (with_arguments scope role args)
  arguments_flat scope role [] h = h
  arguments_flat scope role (arg ∷ args) h =
      arguments_flat (defined scope arg.name (unwrap_or (type_of arg.ty) index) role) role args
      (All-push IsGood scope.values (unwrap_or (type_of arg.ty) index) h (type_kept arg.ty))

  arguments_counted : (scope : Scope) (role : Role) (args : List BodyArg) → length (with_arguments scope role args).values ≡ length scope.values + length args
  arguments_counted scope role [] = omega arith
  arguments_counted scope role (arg ∷ args) =
      let t = unwrap_or (type_of arg.ty) index in
      let longer : length (scope.values ++ t ∷ []) ≡ length scope.values + 1 = length-append scope.values (t ∷ []) in
      let others : length (with_arguments (defined scope arg.name t role) role args).values ≡ length (scope.values ++ t ∷ []) + length args
      = arguments_counted (defined scope arg.name t role) role args in
      omega (arith, longer, others)

  arguments_named : (count n : ℕ) (args : List BodyArg) → n + length args ≤ count → AreBelow count (argument_values n args)
  arguments_named count n [] l = All-nil (λ (id : ValueId). id.0 < count)
  arguments_named count n (arg ∷ args) l =
      All-cons (λ (id : ValueId). id.0 < count) (record { 0 = n }) (argument_values (n + 1) args) (omega arith)
      (arguments_named count (n + 1) args (omega arith))

  one_named : (count : ℕ) (scope : Scope) → length scope.values < count → AreBelow count (next_value scope ∷ [])
  one_named count scope l = All-cons (λ (id : ValueId). id.0 < count) (next_value scope) [] l (All-nil (λ (id : ValueId). id.0 < count))

  none_named : (count : ℕ) → AreBelow count []
  none_named count = All-nil (λ (id : ValueId). id.0 < count)

  no_regions : (count : ℕ) → All (CanRunRegion count) []
  no_regions count = All-nil (CanRunRegion count)

  -- ---- regions
  module _ (operation : Bool → Scope → Node → Outcome (Step Op)) (each : (is_last : Bool) (scope : Scope) (node : Node) → OnGiven (Holds CanRun scope) (operation is_last scope node)) where
    in_order_holds : (done : List Op) (scope : Scope) (nodes : List Node) → ((count : ℕ) → length scope.values ≤ count → AllRun count done)
        → OnGiven (Holds AllRun scope) (in_order operation done scope nodes)
    in_order_holds done scope [] h = record { more = omega arith; flat = λ f. f; runs = h }
    in_order_holds done scope (node ∷ nodes) h =
        on_next (Holds CanRun scope) (Holds AllRun scope) (operation (length (node ∷ nodes) == 1) scope node) (λ s. in_order operation (done ++ s.given ∷ []) s.scope nodes)
        (each (length (node ∷ nodes) == 1) scope node)
        (λ s now. onward CanRun AllRun scope s (in_order operation (done ++ s.given ∷ []) s.scope nodes) now
        (in_order_holds (done ++ s.given ∷ []) s.scope nodes
        (λ count l. All-push (CanRun count) done s.given (h count (omega (arith, now.more, l))) (now.runs count l))))

    region_holds : (role : Role) (scope : Scope) (body : Body) → OnGiven (Holds CanRunRegion scope) (region_with operation role scope body)
    unfolding region_with
    region_holds role scope body =
        let args = (out-Body body).args in
        let inner = with_arguments scope role args in
        let counted = arguments_counted scope role args in
        on_next (Holds AllRun inner) (Holds CanRunRegion scope) (in_order operation [] inner (out-Body body).nodes)
        (λ s. step (region_of (argument_values (length scope.values) args) s.given) (closed scope s.scope))
        (in_order_holds [] inner (out-Body body).nodes (λ count l. All-nil (CanRun count)))
        (λ s done. record {
          more = omega (arith, counted, done.more);
          flat = λ f. done.flat (arguments_flat scope role args f);
          runs = λ count l.
              region_runs count (argument_values (length scope.values) args) s.given
              (arguments_named count (length scope.values) args (omega (arith, counted, done.more, l))) (done.runs count l);
        })

    empty_region : (count : ℕ) → CanRunRegion count (region_of [] [])
    empty_region count = region_runs count [] [] (none_named count) (All-nil (CanRun count))

    only_region_holds : (role : Role) (scope : Scope) (bodies : List Body) → OnGiven (Holds CanRunRegion scope) (only_region (region_with operation role) scope bodies)
    only_region_holds role scope [] = stay CanRunRegion scope (region_of [] []) empty_region
    only_region_holds role scope (body ∷ []) = region_holds role scope body
    only_region_holds role scope (body ∷ other ∷ bodies) = stay CanRunRegion scope (region_of [] []) empty_region

  -- ---- loops
  -- what stands beyond the end of a list of rules, which is never asked
  abbrev any_rule : Rule
  any_rule = asks code.Name true

  loop_maps : (has_room : Bool) (scope : Scope) (node : Node) (operands : List ValueId) (new : Bool) → first_failing (loop_rules new has_room scope node operands) ≡ None
      → (is_affine (lower_map node) && is_affine (upper_map node) ≡ true) × (has_few_results (lower_map node) && has_few_results (upper_map node) && has_room ≡ true)
  loop_maps has_room scope node operands new passed =
      let rules = loop_rules new has_room scope node operands in
      let hold = all_hold rules passed in
      (hold 11 any_rule (lit< tt), hold 12 any_rule (lit< tt))

  loop_runs : (count number : ℕ) (node : Node) (operands : List ValueId) (region : Region)
      → is_affine (lower_map node) && is_affine (upper_map node) ≡ true → (has_room : Bool) → has_few_results (lower_map node) && has_few_results (upper_map node) && has_room ≡ true
      → CanRunRegion count region → CanRun count (loop_op node operands (region ∷ []) number)
  loop_runs count number node operands region affine has_room few inside =
      let affines = both (is_affine (lower_map node)) (is_affine (upper_map node)) affine in
      let fews = both (has_few_results (lower_map node)) (has_few_results (upper_map node)) (both (has_few_results (lower_map node) && has_few_results (upper_map node)) has_room few).0 in
      let lower = normal_entry node (codes "lowerBoundMap") (lower_values node operands) in
      let upper = normal_entry node (codes "upperBoundMap") (upper_values node operands) in
      op_runs count number (AffineFor lower.map upper.map (step_of (number_of (entry_of (codes "step") node)))) (lower.operands ++ upper.operands) [] (region ∷ []) (marks_of row.Loop node)
      (usable (lower_map node) (lower_values node operands) affines.0 fews.0, usable (upper_map node) (upper_values node operands) affines.1 fews.1)
      tt (none_named count) (All-cons (CanRunRegion count) region [] inside (no_regions count))

  loop_holds : (has_room : Bool) (inside : Scope → List Body → Outcome (Step Region)) → ((scope : Scope) (bodies : List Body) → OnGiven (Holds CanRunRegion scope) (inside scope bodies))
      → (number : ℕ) (scope : Scope) (node : Node) → OnGiven (Holds CanRun scope) (loop_with has_room inside number scope node)
  unfolding loop_with
  loop_holds has_room inside within number scope node =
      let new = are_new scope.names [] (out-Node node).regions in
      on_checked (Holds CanRun scope) number (first_failing (loop_rules new has_room scope node (operands_of scope node)))
      (next (inside scope (out-Node node).regions) (λ s. step (loop_op node (operands_of scope node) (s.given ∷ []) number) s.scope))
      (λ passed.
      let maps = loop_maps has_room scope node (operands_of scope node) new passed in
      on_next (Holds CanRunRegion scope) (Holds CanRun scope) (inside scope (out-Node node).regions)
      (λ s. step (loop_op node (operands_of scope node) (s.given ∷ []) number) s.scope)
      (within scope (out-Node node).regions)
      (λ s done. record {
        more = done.more;
        flat = done.flat;
        runs = λ count l. loop_runs count number node (operands_of scope node) s.given maps.0 has_room maps.1 (done.runs count l);
      }))

  -- ---- other operations
  module _ (number : ℕ) (scope : Scope) (node : Node) where
    constant_holds : OnGiven (Holds CanRun scope) (checked number (first_failing (constant_rules scope node))
        (step (constant_op scope node number) (defined scope (result_name node) (ty.Scalar (constant_elem node)) Plain)))
    constant_holds =
        on_checked (Holds CanRun scope) number (first_failing (constant_rules scope node))
        (step (constant_op scope node number) (defined scope (result_name node) (ty.Scalar (constant_elem node)) Plain))
        (λ passed. define CanRun scope (result_name node) (ty.Scalar (constant_elem node)) Plain (constant_op scope node number) (scalars (constant_elem node))
        (λ count l. op_runs count number (ArithConstant (Splat (constant_pattern node))) [] (next_value scope ∷ []) [] no_marks tt tt (one_named count scope l) (no_regions count)))

    binary_holds : (op : BinOp) → OnGiven (Holds CanRun scope) (checked number (first_failing (binary_rules op scope node))
        (step (binary_op op scope node number) (defined scope (result_name node) (ty.Scalar (left_elem scope node)) Plain)))
    binary_holds op =
        on_checked (Holds CanRun scope) number (first_failing (binary_rules op scope node))
        (step (binary_op op scope node number) (defined scope (result_name node) (ty.Scalar (left_elem scope node)) Plain))
        (λ passed. define CanRun scope (result_name node) (ty.Scalar (left_elem scope node)) Plain (binary_op op scope node number) (scalars (left_elem scope node))
        (λ count l. op_runs count number (ArithBinary op) (operands_of scope node) (next_value scope ∷ []) [] no_marks tt tt (one_named count scope l) (no_regions count)))

    load_maps : first_failing (load_rules scope node) ≡ None → (is_affine (access_map node) ≡ true) × (has_few_results (access_map node) ≡ true)
    load_maps passed =
        let hold = all_hold (load_rules scope node) passed in
        (hold 10 any_rule (lit< tt), hold 11 any_rule (lit< tt))

    load_holds : OnGiven (Holds CanRun scope) (checked number (first_failing (load_rules scope node))
        (step (load_op scope node number) (defined scope (result_name node) (ty.Scalar (loaded_elem scope node)) Plain)))
    load_holds =
        on_checked (Holds CanRun scope) number (first_failing (load_rules scope node))
        (step (load_op scope node number) (defined scope (result_name node) (ty.Scalar (loaded_elem scope node)) Plain))
        (λ passed. let maps = load_maps passed in
        define CanRun scope (result_name node) (ty.Scalar (loaded_elem scope node)) Plain (load_op scope node number) (scalars (loaded_elem scope node))
        (λ count l. op_runs count number (AffineLoad (used_map node (operands_of scope node) 1).map) (used_map node (operands_of scope node) 1).operands (next_value scope ∷ []) [] (marks_of row.Load node)
        (usable (access_map node) (drop 1 (operands_of scope node)) maps.0 maps.1) tt (one_named count scope l) (no_regions count)))

    store_maps : first_failing (store_rules scope node) ≡ None → (is_affine (access_map node) ≡ true) × (has_few_results (access_map node) ≡ true)
    store_maps passed =
        let hold = all_hold (store_rules scope node) passed in
        (hold 9 any_rule (lit< tt), hold 10 any_rule (lit< tt))

    store_holds : OnGiven (Holds CanRun scope) (checked number (first_failing (store_rules scope node)) (step (store_op scope node number) scope))
    store_holds =
        on_checked (Holds CanRun scope) number (first_failing (store_rules scope node)) (step (store_op scope node number) scope)
        (λ passed. let maps = store_maps passed in
        stay CanRun scope (store_op scope node number)
        (λ count. op_runs count number (AffineStore (used_map node (operands_of scope node) 2).map) (used_map node (operands_of scope node) 2).operands [] [] (marks_of row.Store node)
        (usable (access_map node) (drop 2 (operands_of scope node)) maps.0 maps.1) tt (none_named count) (no_regions count)))

    return_holds : (is_last : Bool) → OnGiven (Holds CanRun scope) (checked number (first_failing (end_rules row.Return is_last scope node)) (step (end_op row.Return scope node number) scope))
    return_holds is_last =
        on_checked (Holds CanRun scope) number (first_failing (end_rules row.Return is_last scope node)) (step (end_op row.Return scope node number) scope)
        (λ passed. stay CanRun scope (end_op row.Return scope node number)
        (λ count. op_runs count number FuncReturn (operands_of scope node) [] [] no_marks tt tt (none_named count) (no_regions count)))

    yield_holds : (is_last : Bool) → OnGiven (Holds CanRun scope) (checked number (first_failing (end_rules row.Yield is_last scope node)) (step (end_op row.Yield scope node number) scope))
    yield_holds is_last =
        on_checked (Holds CanRun scope) number (first_failing (end_rules row.Yield is_last scope node)) (step (end_op row.Yield scope node number) scope)
        (λ passed. stay CanRun scope (end_op row.Yield scope node number)
        (λ count. op_runs count number AffineYield (operands_of scope node) [] [] no_marks tt tt (none_named count) (no_regions count)))

  -- ---- any operation
  module _ (loop : ℕ → Scope → Node → Outcome (Step Op)) (loops : (number : ℕ) (scope : Scope) (node : Node) → OnGiven (Holds CanRun scope) (loop number scope node)) where
    known_holds : (r : Row) (number : ℕ) (is_last : Bool) (scope : Scope) (node : Node) → OnGiven (Holds CanRun scope) (known_with loop r number is_last scope node)
    unfolding known_with
    known_holds row.Loop number is_last scope node = loops number scope node
    known_holds row.Constant number is_last scope node = constant_holds number scope node
    known_holds (row.Binary op) number is_last scope node = binary_holds number scope node op
    known_holds row.Load number is_last scope node = load_holds number scope node
    known_holds row.Store number is_last scope node = store_holds number scope node
    known_holds row.Return number is_last scope node = return_holds number scope node is_last
    known_holds row.Yield number is_last scope node = yield_holds number scope node is_last
    known_holds row.Module number is_last scope node = tt
    known_holds row.Function number is_last scope node = tt

    by_row_holds : (r : Option Row) (number : ℕ) (is_last : Bool) (scope : Scope) (node : Node) → OnGiven (Holds CanRun scope) (by_row loop r number is_last scope node)
    by_row_holds (Some r) number is_last scope node = known_holds r number is_last scope node
    by_row_holds None number is_last scope node = tt

    -- a number that is taken changes no value
    renumbered : (scope : Scope) (o : Outcome (Step Op)) → OnGiven (Holds CanRun (numbered scope)) o → OnGiven (Holds CanRun scope) o
    renumbered scope (gives s) h = record { more = h.more; flat = h.flat; runs = h.runs }
    renumbered scope (fails k c) h = tt

    operation_holds : (is_last : Bool) (scope : Scope) (node : Node) → OnGiven (Holds CanRun scope) (operation_with loop is_last scope node)
    unfolding operation_with
    operation_holds is_last scope node =
        renumbered scope (by_row loop (row_of (out-Node node).name) (length scope.owners) is_last (numbered scope) node)
        (by_row_holds (row_of (out-Node node).name) (length scope.owners) is_last (numbered scope) node)

  loop_of_holds : (room number : ℕ) (scope : Scope) (node : Node) → OnGiven (Holds CanRun scope) (loop_of room number scope node)
  unfolding loop_of
  loop_of_holds zero number scope node = loop_holds false (λ inner bodies. fails number 17) (λ inner bodies. tt) number scope node
  loop_of_holds (suc room) number scope node =
      loop_holds true (only_region (region_with (operation_with (loop_of room)) Dimension))
      (only_region_holds (operation_with (loop_of room)) (operation_holds (loop_of room) (loop_of_holds room)) Dimension) number scope node

  -- ---- functions and modules
  -- the values of a function are good, and it can be run
  abbrev IsKept : Func → Type 0
  IsKept f = All IsGood f.values × CanRunRegion (length f.values) f.body

  function_holds : (room : ℕ) (scope : Scope) (node : Node) → Flat scope → OnGiven (λ s. IsKept s.given) (function_of room scope node)
  unfolding function_of
  function_holds room scope node f =
      on_checked (λ s. IsKept s.given) (length scope.owners) (first_failing (function_rules (are_new scope.names [] (out-Node node).regions) node))
      (next (only_region (region_with (operation_with (loop_of room)) Plain) (numbered scope) (out-Node node).regions)
      (λ s. step (func_of node (length scope.owners) s.scope.values s.given) s.scope))
      (λ passed. on_next (Holds CanRunRegion (numbered scope)) (λ s. IsKept s.given) (only_region (region_with (operation_with (loop_of room)) Plain) (numbered scope) (out-Node node).regions)
      (λ s. step (func_of node (length scope.owners) s.scope.values s.given) s.scope)
      (only_region_holds (operation_with (loop_of room)) (operation_holds (loop_of room) (loop_of_holds room)) Plain (numbered scope) (out-Node node).regions)
      (λ s done. (done.flat f, done.runs (length s.scope.values) (omega arith))))

  module_holds : (mode : Mode) (node : Option Node) → OnGiven (λ m. All IsKept m.funcs) (module_of mode node)
  unfolding module_of
  module_holds mode (Some node) =
      on_next (λ s. IsKept s.given) (λ m. All IsKept m.funcs) (function_of (most_regions mode) (numbered first_scope) node)
      (λ s. gives (record { funcs = s.given ∷ []; owners = s.scope.owners }))
      (function_holds (most_regions mode) (numbered first_scope) node (All-nil IsGood))
      (λ s kept. All-cons IsKept s.given [] kept (All-nil IsKept))
  module_holds mode None = tt

  pub elaborated_holds : (tree : Tree) (mode : Mode) (m : ir.Module) → elaborated tree mode ≡ gives m → All IsKept m.funcs
  unfolding elaborated
  elaborated_holds tree mode m is =
      given (λ m. All IsKept m.funcs) (elaborated tree mode) m
      (on_checked (λ m. All IsKept m.funcs) 0 (first_failing (module_rules tree.root mode)) (module_of mode (only_function tree.root))
      (λ passed. module_holds mode (only_function tree.root))) is
