-- The functions and modules that are taken are those of programs.
use Rattle.std.proofs.Common.{◌≡◌, ◌∙◌, ℕ, ◌+◌, ◌*◌, ◌<◌, ◌≤◌, ◌^◌, arith, Bool, true, false, List, [], ◌∷◌, ◌++◌, append_assoc, append-nil, Some, None, map, length, length-append, refl, ap, sym, subst}
use Rattle.std.specs.Prelude.{replicate, not, ◌&&◌, ◌==◌, Option, is_some, unwrap_or, codes, if◌then◌else◌}
use Rattle.std.specs.Prelude.{sum as total}
use Rattle.std.specs.List.{All, list_all, range_with_len}
use Rattle.std.specs.Str.{bytes_eq}
use Rattle.std.proofs.lemmas.Bool.{leb-true, ltb-true}
use Rattle.std.proofs.lemmas.List.{map-append}
use Rattle.std.proofs.Math.Nat.{le-mul_of_pos_right}
use Rattle.std.proofs.lemmas.List.Elements.{All-nil, All-cons}
use Rattle.std.proofs.lemmas.List.Sums.{sum_by-cons}
use Rattle.av_bits.specs.declared.types.Width.TheVariants.{W32}
use Rattle.av_ir.specs.declared.ty.Elem.TheVariants.{Int, Index}
use Rattle.av_ir.specs.declared.ty.Extent.TheVariants as extent
use Rattle.av_ir.specs.declared.ty.Ty.{Ty}
use Rattle.av_ir.specs.declared.ty.Ty.TheVariants as ty
use Rattle.av_ir.specs.declared.module.ValueId.{ValueId}
use Rattle.av_ir.specs.declared.module.OpKind.TheVariants.{FuncReturn}
use Rattle.av_ir.specs.declared.module.Op.{Op}
use Rattle.av_ir.specs.declared.module.Region.{Region, roll-Region}
use Rattle.av_ir.specs.declared.module.Func.{Func}
use Rattle.av_ir.specs.declared.module.Module.{Module}
use Rattle.av_ir.specs.Marks.{Made, in_turn, marked_op, marked_region, marked_func}
use Rattle.av_ir.proofs.MarkedLevels.{marked_region-roll}
use Rattle.av_shapes.specs.Places.{lanes}
use Rattle.av_tree.specs.declared.node.Node.{Node, out-Node}
use Rattle.av_tree.specs.declared.node.Body.{Body, out-Body}
use Rattle.av_tree.specs.declared.node.BodyArg.{BodyArg}
use Rattle.av_tree.specs.declared.written.SizeText.TheVariants.{Fixed}
use Rattle.av_tree.specs.declared.written.TypeText.{TypeText, MemRef}
use Rattle.av_verify.specs.declared.module.Mode.TheVariants as mode
use Rattle.av_verify.specs.Parts.{Role, Plain, Scope}
use Rattle.av_verify.specs.Codes.{first_failing}
use Rattle.av_verify.specs.Elaboration.{gives, next, Step, step, in_order, numbered, closed, only_region, region_of, region_with, argument_values, with_arguments, loop_of, operation_with, function_of, module_of, elaborated}
use Rattle.av_verify.specs.FirstPath.{is_only, is_bare, is_plain_module, is_end, is_block, is_plain_buffer, is_in_function, is_function_body, is_plain_function, is_module_body}
use Rattle.av_verify.specs.Loops.{are_fresh, are_new}
use Rattle.av_verify.specs.Modules.{function_rules, func_of, is_symbol, module_rules, name_of, only_function, only_in, only_node, operations_in, operations_within}
use Rattle.av_verify.specs.Names.{Binding, binds, value_named, is_visible, bound}
use Rattle.av_verify.specs.Scopes.{defined, first_scope}
use Rattle.av_verify.specs.Types.{is_small, is_within_limits, memref_of, type_of}
use Rattle.av_verify.proofs.Counts.{in_node, in_body}
use Rattle.av_program_laws.specs.Programs.{Program}
use Rattle.av_program_laws.specs.Programs.{Step as Taken}
use Rattle.av_program_laws.specs.Walks.{Place, buffer, passed, with_argument, after_buffers, after_step, after_steps, first_place, body_place, last_place}
use Rattle.av_program_laws.specs.Walks.{next as next_in}
use Rattle.av_program_laws.specs.Modules.{value, op, no_marks, step_op, step_ops}
use Rattle.av_program_laws.specs.Modules.{func_of as func_in}
use Rattle.av_program_laws.specs.Sound.{AreSoundSteps, visible_behind}
use Rattle.av_program_laws.specs.ProgramLaws.{IsProgram, TakenLaw}
use Rattle.av_program_laws.proofs.TakenRules.{both, denied, same_bytes, only_one, all_hold, next_gives, checked_gives, given_is}
use Rattle.av_program_laws.proofs.TakenScopes.{bound_fresh, plain_more, below_more, names_more, Matches}
use Rattle.av_program_laws.proofs.TakenWalks.{no_block, last_of_block, first_of_block}
use Rattle.av_program_laws.proofs.TakenBlocks.{made_first, made_none, IsEnded, return_taken, some_operations}
use Rattle.av_program_laws.proofs.TakenLoops.{IsTaken, operation_taken}

-- ---- the operations of the function
pub record AreTaken (scope after : Scope) (visible : List ℕ) (place : Place) (nodes : List Node) (ops : List Op) : Type 0 where
  pub steps : List Taken
  pub sound : AreSoundSteps visible place steps
  pub made : in_turn (map marked_op ops) place.loops ≡ record { made = step_ops steps place; loops = (after_steps steps place).loops }
  pub seen : List ℕ
  pub behind : Matches after seen (passed (after_steps steps place))
  pub few : (after_steps steps place).number + 1 ≤ place.number + total (map operations_in nodes)

ends_taken : (scope after : Scope) (visible : List ℕ) (place : Place) (node : Node) (one : Op)
    → IsEnded FuncReturn scope after visible place one → AreTaken scope after visible place (node ∷ []) (one ∷ [])
unfolding AreSoundSteps step_ops after_steps
ends_taken scope after visible place node one h = record {
  steps = [];
  sound = tt;
  made = made_first one [] place.loops place.loops place.loops (op place.number FuncReturn [] [] [] no_marks) [] (h.made place.loops) (made_none place.loops);
  seen = visible;
  behind = h.behind;
  few = omega (arith, some_operations node, sum_by-cons (λ (n : ℕ). n) (operations_in node) []);
}

goes_taken : (scope between after : Scope) (visible : List ℕ) (place : Place) (node : Node) (nodes : List Node) (one : Op) (ops : List Op)
    → (t : IsTaken scope between visible place node one)
    → AreTaken between after (visible_behind t.taken place visible) (after_step t.taken place) nodes ops
    → AreTaken scope after visible place (node ∷ nodes) (one ∷ ops)
unfolding AreSoundSteps step_ops after_steps
goes_taken scope between after visible place node nodes one ops t h = record {
  steps = t.taken ∷ h.steps;
  sound = (t.sound, h.sound);
  made =
      made_first one ops place.loops (after_step t.taken place).loops (after_steps h.steps (after_step t.taken place)).loops (step_op t.taken place)
      (step_ops h.steps (after_step t.taken place)) t.made h.made;
  seen = h.seen;
  behind = h.behind;
  few = omega (arith, h.few, t.few, sum_by-cons (λ (n : ℕ). n) (operations_in node) (map operations_in nodes));
}

module _ (room : ℕ) where
  record Steps (done : List Op) (scope : Scope) (visible : List ℕ) (place : Place) (nodes : List Node) (s : Step (List Op)) : Type 0 where
    ops : List Op
    given : s.given ≡ done ++ ops
    taken : AreTaken scope s.scope visible place nodes ops

  steps_taken : (nodes : List Node) (done : List Op) (scope : Scope) (visible : List ℕ) (place : Place) (s : Step (List Op))
      → Matches scope visible place → is_block is_in_function (is_end (codes "func.return")) nodes ≡ true
      → in_order (operation_with (loop_of room)) done scope nodes ≡ gives s → Steps done scope visible place nodes s
  steps_taken [] done scope visible place s h block given = absurd (no_block is_in_function (is_end (codes "func.return")) block)
  steps_taken (node ∷ []) done scope visible place s h block given =
      let n = next_gives (operation_with (loop_of room) true scope node) _ s given in
      let e = return_taken (loop_of room) true scope visible place h node n.0 n.1 (last_of_block is_in_function (is_end (codes "func.return")) node block) in
      subst (λ (x : Step (List Op)). Steps done scope visible place (node ∷ []) x)
      (given_is (record { given = done ++ n.0.given ∷ []; scope = n.0.scope }) s n.2)
      (record { ops = n.0.given ∷ []; given = refl; taken = ends_taken scope n.0.scope visible place node n.0.given e })
  steps_taken (node ∷ other ∷ nodes) done scope visible place s h block given =
      let b = first_of_block is_in_function (is_end (codes "func.return")) node other nodes block in
      let n = next_gives (operation_with (loop_of room) (length (node ∷ other ∷ nodes) == 1) scope node) _ s given in
      let t = operation_taken room (length (node ∷ other ∷ nodes) == 1) scope visible place h node n.0 n.1 b.0 in
      let rest = steps_taken (other ∷ nodes) (done ++ n.0.given ∷ []) n.0.scope (visible_behind t.taken place visible) (after_step t.taken place) s t.behind b.1 n.2 in
      record {
        ops = n.0.given ∷ rest.ops;
        given = rest.given ∙ append_assoc done (n.0.given ∷ []) rest.ops;
        taken = goes_taken scope n.0.scope s.scope visible place node (other ∷ nodes) n.0.given rest.ops t rest.taken;
      }

-- ---- names of arguments
abbrev names_of : List Binding → List (List ℕ)
names_of names = map (λ (b : Binding). b.name) names

alike_cond : (n : List ℕ) (x y : Binding) (xs ys : List Binding) (same : Bool) → is_visible xs n ≡ is_visible ys n
    → is_some (if same then Some x.value else value_named n xs) ≡ is_some (if same then Some y.value else value_named n ys)
alike_cond n x y xs ys true h = refl
alike_cond n x y xs ys false h = h

alike_visible : (xs ys : List Binding) (n : List ℕ) → names_of xs ≡ names_of ys → is_visible xs n ≡ is_visible ys n
alike_visible [] [] n h = refl
alike_visible [] (y ∷ ys) n h = absurd (cc)
alike_visible (x ∷ xs) [] n h = absurd (cc)
alike_visible (x ∷ xs) (y ∷ ys) n h =
    let first : x.name ≡ y.name = cc in
    let others : names_of xs ≡ names_of ys = cc in
    alike_cond n x y xs ys (bytes_eq n x.name) (alike_visible xs ys n others)
    ∙ ap (λ m. is_some (if bytes_eq n m then Some y.value else value_named n ys)) first

bound_names : (xs : List Binding) (name : List ℕ) (v : ValueId) → is_visible xs name ≡ false → names_of (bound xs name v) ≡ names_of xs ++ name ∷ []
bound_names xs name v fresh = ap names_of (bound_fresh xs name v fresh) ∙ map-append (λ (b : Binding). b.name) xs (binds name v ∷ [])

-- ---- buffers
buffer_size : (t : TypeText) → is_plain_buffer t ≡ true → is_within_limits t ≡ true
    → (size : ℕ) × (size < 2 ^ 31) × (unwrap_or (type_of t) (ty.Scalar Index) ≡ buffer size)
buffer_size (MemRef (Fixed n ∷ []) elem None) plain within =
    let small : is_small (Fixed n) ≡ true = (both (is_small (Fixed n)) true (both true (is_small (Fixed n) && true) within).1).0 in
    let named : elem ≡ codes "i32" = same_bytes elem (codes "i32") plain in (
      n,
      ltb-true n (2 ^ 31) small,
      ap (λ e. unwrap_or (type_of (MemRef (Fixed n ∷ []) e None)) (ty.Scalar Index)) named
          ∙ ap (λ b. unwrap_or (memref_of (Some (Int W32)) (if b && true then Some (extent.Fixed n ∷ []) else None)) (ty.Scalar Index)) small,
    )
buffer_size _ plain within = absurd (cc)

module _ (scope : Scope) (visible : List ℕ) (place : Place) (h : Matches scope visible place) where
  matches_argument : (name : List ℕ) (t : Ty) (size : ℕ) (role : Role) → is_visible scope.names name ≡ false → t ≡ buffer size
      → Matches (defined scope name t role) (visible ++ next_in place ∷ []) (with_argument (buffer size) place)
  unfolding with_argument
  matches_argument name t size role fresh is = record {
    owners = h.owners;
    values = ap (λ (l : List Ty). l ++ t ∷ []) h.values ∙ ap (λ x. place.types ++ x ∷ []) is;
    names = names_more scope.names visible scope.values place.types name h.names h.values fresh;
    below = below_more visible place.types (buffer size) h.below;
    plain = plain_more place.types (buffer size) h.plain (size, refl);
  }

argument_number : (t : Ty) (place : Place) → (with_argument t place).number ≡ place.number
unfolding with_argument
argument_number t place = refl

argument_loops : (t : Ty) (place : Place) → (with_argument t place).loops ≡ place.loops
unfolding with_argument
argument_loops t place = refl

argument_next : (t : Ty) (place : Place) → next_in (with_argument t place) ≡ next_in place + 1
unfolding with_argument
argument_next t place = omega (arith, length-append place.types (t ∷ []))

buffers_number : (sizes : List ℕ) (place : Place) → (after_buffers sizes place).number ≡ place.number
unfolding after_buffers
buffers_number [] place = refl
buffers_number (size ∷ sizes) place = buffers_number sizes (with_argument (buffer size) place) ∙ argument_number (buffer size) place

buffers_loops : (sizes : List ℕ) (place : Place) → (after_buffers sizes place).loops ≡ place.loops
unfolding after_buffers
buffers_loops [] place = refl
buffers_loops (size ∷ sizes) place = buffers_loops sizes (with_argument (buffer size) place) ∙ argument_loops (buffer size) place

record AreBuffers (scope : Scope) (role : Role) (visible : List ℕ) (place : Place) (args : List BodyArg) : Type 0 where
  sizes : List ℕ
  small : All (λ size. size < 2 ^ 31) sizes
  many : length sizes ≡ length args
  behind : Matches (with_arguments scope role args) (visible ++ range_with_len (next_in place) (length sizes)) (after_buffers sizes place)

first_buffer : (scope : Scope) (role : Role) (visible : List ℕ) (place : Place) (arg : BodyArg) (args : List BodyArg) (size : ℕ) → size < 2 ^ 31
    → AreBuffers (defined scope arg.name (unwrap_or (type_of arg.ty) (ty.Scalar Index)) role) role (visible ++ next_in place ∷ []) (with_argument (buffer size) place) args
    → AreBuffers scope role visible place (arg ∷ args)
unfolding after_buffers
first_buffer scope role visible place arg args size small rest = record {
  sizes = size ∷ rest.sizes;
  small = All-cons (λ n. n < 2 ^ 31) size rest.sizes small rest.small;
  many = omega (arith, rest.many);
  behind =
      subst (λ (l : List ℕ). Matches (with_arguments scope role (arg ∷ args)) l (after_buffers rest.sizes (with_argument (buffer size) place)))
      (append_assoc visible (next_in place ∷ []) (range_with_len (next_in (with_argument (buffer size) place)) (length rest.sizes))
      ∙ ap (λ n. visible ++ (next_in place ∷ range_with_len n (length rest.sizes))) (argument_next (buffer size) place)) rest.behind;
}

buffers_taken : (args : List BodyArg) (scope : Scope) (role : Role) (visible : List ℕ) (place : Place) (seen : List Binding) → Matches scope visible place
    → names_of seen ≡ names_of scope.names → are_fresh [] seen args ≡ true
    → list_all (λ (arg : BodyArg). is_plain_buffer arg.ty) args ≡ true → list_all (λ (arg : BodyArg). is_within_limits arg.ty) args ≡ true
    → AreBuffers scope role visible place args
unfolding after_buffers
buffers_taken [] scope role visible place seen h named fresh plain within = record {
  sizes = [];
  small = All-nil (λ n. n < 2 ^ 31);
  many = refl;
  behind = subst (λ (l : List ℕ). Matches scope l place) (sym (append-nil visible)) h;
}
buffers_taken (arg ∷ args) scope role visible place seen h named fresh plain within =
    let plains = both _ _ plain in
    let withins = both _ _ within in
    let parts = both (true && not (is_visible seen arg.name)) (are_fresh [] (bound seen arg.name (record { 0 = 0 })) args) fresh in
    let unseen : is_visible seen arg.name ≡ false = denied (is_visible seen arg.name) (both true (not (is_visible seen arg.name)) parts.0).1 in
    let new : is_visible scope.names arg.name ≡ false = sym (alike_visible seen scope.names arg.name named) ∙ unseen in
    let b = buffer_size arg.ty plains.0 withins.0 in
    let t = unwrap_or (type_of arg.ty) (ty.Scalar Index) in
    let names_still : names_of (bound seen arg.name (record { 0 = 0 })) ≡ names_of (bound scope.names arg.name (record { 0 = length scope.values })) =
    bound_names seen arg.name (record { 0 = 0 }) unseen ∙ ap (λ l. l ++ arg.name ∷ []) named ∙ sym (bound_names scope.names arg.name (record { 0 = length scope.values }) new) in
    first_buffer scope role visible place arg args b.0 b.1
    (buffers_taken args (defined scope arg.name t role) role (visible ++ next_in place ∷ []) (with_argument (buffer b.0) place) (bound seen arg.name (record { 0 = 0 }))
    (matches_argument scope visible place h arg.name t b.0 role new b.2) names_still parts.1 plains.1 withins.1)

values_are : (n : ℕ) (args : List BodyArg) → argument_values n args ≡ map value (range_with_len n (length args))
values_are n [] = refl
values_are n (arg ∷ args) = ap (λ l. value n ∷ l) (values_are (n + 1) args)

-- ---- the function
abbrev entry_scope : Scope
entry_scope = numbered (numbered first_scope)

entry_matches : Matches entry_scope [] first_place
entry_matches = record { owners = refl; values = refl; names = refl; below = λ v i. absurd i; plain = tt }

-- a function is a program's, with its marks, and what stands behind it
record IsFunction (node : Node) (s : Step Func) : Type 0 where
  program : Program
  sound : is_symbol program.name ≡ true
  small : All (λ size. size < 2 ^ 31) program.sizes
  steps : AreSoundSteps (range_with_len 0 (length program.sizes)) (body_place program) program.steps
  same : (marked_func s.given 0).made ≡ func_in program
  owners : s.scope.owners ≡ replicate ((last_place program).number + 1) 0
  few : (last_place program).number + 1 ≤ 1 + operations_in node

last_owners : (p : Program) (scope : Scope) (seen : List ℕ) → Matches scope seen (passed (last_place p)) → scope.owners ≡ replicate ((last_place p).number + 1) 0
unfolding passed
last_owners p scope seen h = h.owners

last_values : (p : Program) (scope : Scope) (seen : List ℕ) → Matches scope seen (passed (last_place p)) → scope.values ≡ (last_place p).types
unfolding passed
last_values p scope seen h = h.values

function_made : (p : Program) (node : Node) (args : List ValueId) (ops : List Op) (values : List Ty) → p.name ≡ name_of node → args ≡ map value (range_with_len 0 (length p.sizes))
    → values ≡ (last_place p).types
    → in_turn (map marked_op ops) (body_place p).loops ≡ record { made = step_ops p.steps (body_place p); loops = (last_place p).loops }
    → (marked_func (func_of node 1 values (region_of args ops)) 0).made ≡ func_in p
function_made p node args ops values named valued typed made =
    let from : (body_place p).loops ≡ 0 = buffers_loops p.sizes first_place in
    let body : (marked_region (region_of args ops) 0).made ≡ roll-Region (record { args = map value (range_with_len 0 (length p.sizes)); ops = step_ops p.steps (body_place p) }) =
    ap (λ (m : Made Region). m.made) (marked_region-roll (record { args = args; ops = ops }) 0)
    ∙ ap (λ (n : ℕ). roll-Region (record { args = args; ops = (in_turn (map marked_op ops) n).made })) (sym from)
    ∙ ap (λ (m : Made (List Op)). roll-Region (record { args = args; ops = m.made })) made
    ∙ ap (λ l. roll-Region (record { args = l; ops = step_ops p.steps (body_place p) })) valued in
    ap (λ (r : Region). let f : Func = record { name = name_of node; number = 1; values = values; results = []; body = r; marks = no_marks } in f) body
    ∙ ap (λ (l : List Ty). let f : Func = record { name = name_of node; number = 1; values = l; results = []; body = (func_in p).body; marks = no_marks } in f) typed
    ∙ ap (λ (n : List ℕ). let f : Func = record { name = n; number = 1; values = (last_place p).types; results = []; body = (func_in p).body; marks = no_marks } in f) (sym named)

module _ (room : ℕ) (node : Node) (body : Body) (regions : (out-Node node).regions ≡ body ∷ []) (is : is_function_body body ≡ true) (symbol : is_symbol (name_of node) ≡ true) where
  function_whole : (b : AreBuffers entry_scope Plain [] first_place (out-Body body).args) (t : Step (List Op))
      → Steps room [] (with_arguments entry_scope Plain (out-Body body).args) (range_with_len 0 (length b.sizes)) (after_buffers b.sizes first_place) (out-Body body).nodes t
      → IsFunction node (record { given = func_of node 1 t.scope.values (region_of (argument_values 0 (out-Body body).args) t.given); scope = closed entry_scope t.scope })
  function_whole b t steps =
      let a = steps.taken in
      let p : Program = record { name = name_of node; sizes = b.sizes; steps = a.steps } in
      record {
        program = p;
        sound = symbol;
        small = b.small;
        steps = a.sound;
        same =
            ap (λ (l : List Op). (marked_func (func_of node 1 t.scope.values (region_of (argument_values 0 (out-Body body).args) l)) 0).made) steps.given
            ∙ function_made p node (argument_values 0 (out-Body body).args) steps.ops t.scope.values refl
            (values_are 0 (out-Body body).args ∙ ap (λ n. map value (range_with_len 0 n)) (sym b.many)) (last_values p t.scope a.seen a.behind) a.made;
        owners = last_owners p t.scope a.seen a.behind;
        few =
            omega (
              arith,
              a.few,
              buffers_number b.sizes first_place,
              in_node node,
              in_body body,
              ap (λ (bs : List Body). total (map operations_within bs)) regions,
              sum_by-cons (λ (n : ℕ). n) (operations_within body) [],
            );
      }

  function_inside : (r : Step Region) → are_fresh [] [] (out-Body body).args ≡ true → list_all (λ (arg : BodyArg). is_within_limits arg.ty) (out-Body body).args ≡ true
      → region_with (operation_with (loop_of room)) Plain entry_scope body ≡ gives r
      → IsFunction node (record { given = func_of node 1 r.scope.values r.given; scope = r.scope })
  unfolding region_with
  function_inside r fresh within gave =
      let forms = both _ _ is in
      let b = buffers_taken (out-Body body).args entry_scope Plain [] first_place [] entry_matches refl fresh forms.0 within in
      let n = next_gives (in_order (operation_with (loop_of room)) [] (with_arguments entry_scope Plain (out-Body body).args) (out-Body body).nodes)
      (λ s. step (region_of (argument_values 0 (out-Body body).args) s.given) (closed entry_scope s.scope)) r gave in
      let steps = steps_taken room (out-Body body).nodes [] (with_arguments entry_scope Plain (out-Body body).args) (range_with_len 0 (length b.sizes)) (after_buffers b.sizes first_place)
      n.0 b.behind forms.1 n.1 in
      subst (λ (x : Step Region). IsFunction node (record { given = func_of node 1 x.scope.values x.given; scope = x.scope }))
      (given_is (record { given = region_of (argument_values 0 (out-Body body).args) n.0.given; scope = closed entry_scope n.0.scope }) r n.2)
      (function_whole b n.0 steps)

function_taken : (room : ℕ) (node : Node) (s : Step Func) → is_plain_function node ≡ true → function_of room (numbered first_scope) node ≡ gives s → IsFunction node s
unfolding function_of is_plain_function
function_taken room node s plain given =
    let body = only_one is_function_body (out-Node node).regions (both _ _ plain).1 in
    let region = only_region (region_with (operation_with (loop_of room)) Plain) in
    let c = checked_gives 1 (first_failing (function_rules (are_new [] [] (out-Node node).regions) node))
    (next (region entry_scope (out-Node node).regions) (λ r. step (func_of node 1 r.scope.values r.given) r.scope)) s given in
    let rules = all_hold (function_rules (are_new [] [] (out-Node node).regions) node) c.0 in
    let n = next_gives (region entry_scope (out-Node node).regions) (λ r. step (func_of node 1 r.scope.values r.given) r.scope) s c.1 in
    let new : are_new [] [] (body.0 ∷ []) ≡ true = subst (λ (bs : List Body). are_new [] [] bs ≡ true) body.1 rules.1.1.1.0 in
    let limits : list_all (λ (b : Body). list_all (λ (arg : BodyArg). is_within_limits arg.ty) (out-Body b).args) (body.0 ∷ []) ≡ true =
    subst (λ (bs : List Body). list_all (λ (b : Body). list_all (λ (arg : BodyArg). is_within_limits arg.ty) (out-Body b).args) bs ≡ true) body.1 rules.1.1.1.1.1.1.1.1.1.0 in
    let one : region_with (operation_with (loop_of room)) Plain entry_scope body.0 ≡ gives n.0 =
    subst (λ (bs : List Body). region entry_scope bs ≡ gives n.0) body.1 n.1 in
    let symbol : is_symbol (name_of node) ≡ true = (both _ _ (both _ _ rules.1.1.1.1.1.1.0).0).1 in
    subst (λ (x : Step Func). IsFunction node x) (given_is (record { given = func_of node 1 n.0.scope.values n.0.given; scope = n.0.scope }) s n.2)
    (function_inside room node body.0 body.1 body.2 symbol n.0 (both _ _ new).0 (both _ _ limits).0 one)

-- ---- the module
func_alone : (f : Func) → (in_turn (map marked_func (f ∷ [])) 0).made ≡ (marked_func f 0).made ∷ []
unfolding in_turn
func_alone f = refl

program_of : (node : Node) (s : Step Func) (lanes_here operations : ℕ) → IsFunction node s → 1 ≤ lanes_here → operations ≡ 1 + operations_in node
    → operations * lanes_here ≤ 0x8_0000 → IsProgram (record { funcs = s.given ∷ []; owners = s.scope.owners })
program_of node s lanes_here operations f some counts fits = record {
  program = f.program;
  sound = record {
    name = f.sound;
    sizes = f.small;
    few = few_operations operations lanes_here (last_place f.program).number (omega (arith, some)) fits (omega (arith, f.few, counts));
    steps = f.steps;
  };
  same =
      ap (λ (fs : List Func). let m : Module = record { funcs = fs; owners = s.scope.owners } in m) (func_alone s.given)
      ∙ ap (λ (g : Func). let m : Module = record { funcs = g ∷ []; owners = s.scope.owners } in m) f.same
      ∙ ap (λ (os : List ℕ). let m : Module = record { funcs = func_in f.program ∷ []; owners = os } in m) f.owners;
}
  where
    few_operations : (operations lanes_here last : ℕ) → 0 < lanes_here → operations * lanes_here ≤ 0x8_0000 → last + 1 ≤ operations → last < 2 ^ 64
    few_operations operations lanes_here last some fits under =
        let more : operations ≤ operations * lanes_here = le-mul_of_pos_right operations some in omega arith

pub taken_law : TakenLaw
unfolding elaborated module_of
taken_law tree shape m some first given =
    let parts = both (length tree.aliases == 0) (is_plain_module tree.root) first in
    let plain = both (is_bare (codes "builtin.module") tree.root) (is_only is_module_body (out-Node tree.root).regions) parts.1 in
    let body = only_one is_module_body (out-Node tree.root).regions plain.1 in
    let node = only_one is_plain_function (out-Body body.0).nodes (both (length (out-Body body.0).args == 0) (is_only is_plain_function (out-Body body.0).nodes) body.2).1 in
    let mode_here = mode.Scalar shape in
    let c = checked_gives 0 (first_failing (module_rules tree.root mode_here)) (module_of mode_here (only_function tree.root)) m given in
    let rules = all_hold (module_rules tree.root mode_here) c.0 in
    let found_here : only_function tree.root ≡ Some node.0 =
    ap only_in body.1 ∙ ap only_node node.1 in
    let elaborates : module_of mode_here (Some node.0) ≡ gives m = subst (λ (o : Option Node). module_of mode_here o ≡ gives m) found_here c.1 in
    let n = next_gives (function_of 30 (numbered first_scope) node.0) (λ s. gives (record { funcs = s.given ∷ []; owners = s.scope.owners })) m elaborates in
    let counts : operations_in tree.root ≡ 1 + operations_in node.0 =
    let sums : 1 + total (total (map operations_in (node.0 ∷ [])) ∷ []) ≡ 1 + operations_in node.0 =
    omega (arith, sum_by-cons (λ (k : ℕ). k) (total (operations_in node.0 ∷ [])) [], sum_by-cons (λ (k : ℕ). k) (operations_in node.0) []) in
    in_node tree.root ∙ ap (λ (bs : List Body). 1 + total (map operations_within bs)) body.1
    ∙ ap (λ (k : ℕ). 1 + total (k ∷ [])) (in_body body.0 ∙ ap (λ (ns : List Node). total (map operations_in ns)) node.1)
    ∙ sums in
    subst IsProgram (given_is (record { funcs = n.0.given ∷ []; owners = n.0.scope.owners }) m n.2)
    (program_of node.0 n.0 (lanes shape 1) (operations_in tree.root) (function_taken 30 node.0 n.0 node.2 n.1) some counts
    (leb-true (operations_in tree.root * lanes shape 1) 0x8_0000 rules.1.1.1.1.1.1.0))
