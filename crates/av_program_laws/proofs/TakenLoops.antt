-- The loops that are taken, and the operations of the function.
use Rattle.std.proofs.Common.{◌≡◌, ◌∙◌, ℕ, zero, suc, ◌+◌, ◌<◌, ◌≤◌, ◌^◌, arith, Bool, true, false, List, [], ◌∷◌, ◌++◌, append_assoc, Some, None, map, length, length-append, take, drop, refl, ap, sym, subst, inl, inr}
use Rattle.std.specs.Prelude.{ℤ, pos, ◌&&◌, Option, unwrap_or, codes}
use Rattle.std.specs.Prelude.{sum as total}
use Rattle.std.specs.List.{list_all}
use Rattle.std.specs.Option.{option_eq, option_map, option_map_or}
use Rattle.std.specs.Ordering.{int_eq}
use Rattle.std.proofs.lemmas.Bool.Decides.{Decides-int_eq}
use Rattle.std.proofs.lemmas.List.Sums.{sum_by-cons}
use Rattle.std.proofs.Math.Seq.{take-append_seam}
use Rattle.av_ir.specs.declared.ty.Elem.{Elem}
use Rattle.av_ir.specs.declared.ty.Elem.TheVariants.{Int, Index}
use Rattle.av_bits.specs.declared.types.Width.TheVariants.{W32}
use Rattle.av_ir.specs.declared.ty.Ty.{Ty}
use Rattle.av_ir.specs.declared.ty.Ty.TheVariants as ty
use Rattle.av_ir.specs.declared.module.ValueId.{ValueId}
use Rattle.av_ir.specs.declared.module.OpKind.TheVariants.{ArithConstant, AffineFor}
use Rattle.av_ir.specs.declared.module.Const.TheVariants.{Splat}
use Rattle.av_ir.specs.declared.module.Marks.{Marks}
use Rattle.av_ir.specs.declared.module.Op.{Op, roll-Op}
use Rattle.av_ir.specs.declared.module.Region.{Region, roll-Region}
use Rattle.av_ir.specs.Marks.{Made, in_turn, marked_op, marked_region}
use Rattle.av_ir.specs.Marks.{marks_of as made_marks}
use Rattle.av_ir.proofs.MarkedLevels.{marked_op-roll, marked_region-roll}
use Rattle.av_tree.specs.declared.node.Node.{Node, out-Node}
use Rattle.av_tree.specs.declared.node.Body.{Body, out-Body}
use Rattle.av_tree.specs.declared.node.BodyArg.{BodyArg}
use Rattle.av_tree.specs.declared.written.MapText.{MapText}
use Rattle.av_tree.specs.declared.written.TypeText.{TypeText, Scalar}
use Rattle.av_verify.specs.Parts.{MapUse, Constant, Loop, Role, Dimension, Plain, Scope}
use Rattle.av_verify.specs.Accesses.{has_few_results, normal_of}
use Rattle.av_verify.specs.Arith.{operands_of, constant_rules, constant_op, constant_elem, constant_pattern}
use Rattle.av_verify.specs.Codes.{first_failing}
use Rattle.av_verify.specs.Elaboration.{Outcome, gives, next, Step, step, in_order, numbered, closed, only_region, region_of, region_with, argument_values, with_arguments, loop_with, loop_of, known_with, operation_with}
use Rattle.av_verify.specs.Entries.{entry_of, number_of, marks_of}
use Rattle.av_verify.specs.Expressions.{is_affine}
use Rattle.av_verify.specs.FirstPath.{is_named, is_end, is_block, is_in_loop, is_loop_body, is_constant_bound, is_plain_constant, is_plain_loop, is_in_function}
use Rattle.av_verify.specs.Loops.{are_fresh, are_new, is_index, arity_of, lower_map, upper_map, upper_values, step_of, loop_rules, loop_between, loop_op}
use Rattle.av_verify.specs.Modules.{operations_in, operations_within}
use Rattle.av_verify.specs.Names.{Binding, binds, value_named, is_visible, bound, values_named}
use Rattle.av_verify.specs.Ops.{op_of, no_marks}
use Rattle.av_verify.specs.Results.{result_name}
use Rattle.av_verify.specs.Scopes.{defined, next_value}
use Rattle.av_verify.specs.Types.{elem_of, is_elem, written_scalar, type_of}
use Rattle.av_verify.proofs.Counts.{in_node, in_body}
use Rattle.av_program_laws.specs.Programs.{Line, single, counted}
use Rattle.av_program_laws.specs.Programs.{Step as Taken}
use Rattle.av_program_laws.specs.Walks.{Place, element, with_result, passed, inside, with_argument, after_lines, after_step}
use Rattle.av_program_laws.specs.Walks.{next as next_in}
use Rattle.av_program_laws.specs.Modules.{value, op, bound_map, line_ops, loop_region, step_op}
use Rattle.av_program_laws.specs.Sound.{IsBound, AreSoundLines, IsSoundStep, visible_behind}
use Rattle.av_program_laws.proofs.TakenRules.{both, either, denied, only_one, all_hold, next_gives, checked_gives, given_is}
use Rattle.av_program_laws.proofs.TakenScopes.{numbers_in, bound_fresh, named_last, plain_more, one_more_owner, below_more, names_more, Matches, matches_result}
use Rattle.av_program_laws.proofs.TakenSubscripts.{bound_taken}
use Rattle.av_program_laws.proofs.TakenWalks.{lines_grow, lines_loops}
use Rattle.av_program_laws.proofs.TakenLines.{flat_op, same_elem, here, next_here, constant_is}
use Rattle.av_program_laws.proofs.TakenBlocks.{no_operands, step_taken, row_given, some_operations, Lines, lines_taken}

-- ---- types of variables
index_elem : (o : Option Elem) → option_map_or (is_elem Index) o false ≡ true → unwrap_or (option_map (λ elem. ty.Scalar elem) o) (ty.Scalar Index) ≡ ty.Scalar Index
index_elem None h = refl
index_elem (Some elem) h = ap (λ e. ty.Scalar e) (sym (same_elem Index elem h))

index_type : (t : TypeText) → option_map_or (is_elem Index) (written_scalar t) false ≡ true → unwrap_or (type_of t) (ty.Scalar Index) ≡ ty.Scalar Index
index_type (Scalar name) h = index_elem (elem_of name) h
index_type _ h = absurd (cc)

-- ---- the place in a loop
module _ (scope : Scope) (visible : List ℕ) (place : Place) (h : Matches scope visible place) (name : List ℕ) (role : Role) (fresh : is_visible scope.names name ≡ false) where
  matches_inside : Matches (defined (numbered scope) name (ty.Scalar Index) role) (visible ++ next_in place ∷ []) (inside place)
  unfolding inside with_argument
  matches_inside = record {
    owners = one_more_owner scope.owners place.number h.owners;
    values = ap (λ (l : List Ty). l ++ ty.Scalar Index ∷ []) h.values;
    names = names_more scope.names visible scope.values place.types name h.names h.values fresh;
    below = below_more visible place.types (ty.Scalar Index) h.below;
    plain = plain_more place.types (ty.Scalar Index) h.plain tt;
  }

  counter_named : value_named name (bound scope.names name (next_value scope)) ≡ Some (value (next_in place))
  counter_named =
      ap (value_named name) (bound_fresh scope.names name (next_value scope) fresh)
      ∙ named_last scope.names name (next_value scope) fresh
      ∙ ap (λ (l : List Ty). Some (value (length l))) h.values

inside_grows : (place : Place) → length place.types ≤ length (inside place).types
unfolding inside with_argument
inside_grows place = omega (arith, length-append place.types (ty.Scalar Index ∷ []))

inside_number : (place : Place) → (inside place).number ≡ place.number + 1
unfolding inside with_argument
inside_number place = refl

inside_loops : (place : Place) → (inside place).loops ≡ place.loops + 1
unfolding inside with_argument
inside_loops place = refl

-- ---- the operation
module _ (place : Place) (lower upper : ℤ) (counter : ℕ) (lines : List Line) (ops : List Op) (number : ℕ) (marks : Marks)
    (at : number ≡ place.number) (counts : counter ≡ next_in place) (plainly : marks.distinct ≡ false)
    (made : (loops : ℕ) → in_turn (map marked_op ops) loops ≡ record { made = line_ops counter lines (inside place); loops = loops }) where
  region_made : (loops : ℕ) → marked_region (region_of (value counter ∷ []) ops) loops ≡ record { made = loop_region lines place; loops = loops }
  unfolding loop_region
  region_made loops =
      marked_region-roll (record { args = value counter ∷ []; ops = ops }) loops
      ∙ ap (λ (m : Made (List Op)). let r : Made Region = record { made = roll-Region (record { args = value counter ∷ []; ops = m.made }); loops = m.loops } in r) (made loops)
      ∙ ap (λ n. let r : Made Region = record { made = roll-Region (record { args = value n ∷ []; ops = line_ops n lines (inside place) }); loops = loops } in r) counts

  regions_made : (loops : ℕ) → in_turn (map marked_region (region_of (value counter ∷ []) ops ∷ [])) loops ≡ record { made = loop_region lines place ∷ []; loops = loops }
  unfolding in_turn
  regions_made loops =
      ap (λ (m : Made Region). let r : Made (List Region) = record { made = m.made ∷ []; loops = m.loops } in r) (region_made loops)

  pub loop_made : marked_op (op_of number (AffineFor (bound_map lower) (bound_map upper) 1) [] [] (region_of (value counter ∷ []) ops ∷ []) marks) place.loops
      ≡ record { made = step_op (counted lower upper lines) place; loops = place.loops + 1 }
  unfolding op_of step_op op
  loop_made =
      let kind = AffineFor (bound_map lower) (bound_map upper) 1 in
      marked_op-roll (record { number = number; kind = kind; operands = []; results = []; regions = region_of (value counter ∷ []) ops ∷ []; marks = marks }) place.loops
      ∙ ap (λ (m : Made (List Region)). let r : Made Op = record {
        made = roll-Op (record { number = number; kind = kind; operands = []; results = []; regions = m.made; marks = made_marks kind place.loops number marks.distinct });
        loops = m.loops;
      } in r) (regions_made (place.loops + 1))
      ∙ ap (λ (n : ℕ). let r : Made Op = record {
        made = roll-Op (record { number = n; kind = kind; operands = []; results = []; regions = loop_region lines place ∷ []; marks = made_marks kind place.loops n marks.distinct });
        loops = place.loops + 1;
      } in r) at
      ∙ ap (λ (b : Bool). let r : Made Op = record {
        made = roll-Op (record { number = place.number; kind = kind; operands = []; results = []; regions = loop_region lines place ∷ []; marks = made_marks kind place.loops place.number b });
        loops = place.loops + 1;
      } in r) plainly

-- ---- bounds
take_nil : {A : Type 0} (n : ℕ) → take n (let none : List A = [] in none) ≡ []
take_nil zero = refl
take_nil (suc n) = refl

drop_nil : {A : Type 0} (n : ℕ) → drop n (let none : List A = [] in none) ≡ []
drop_nil zero = refl
drop_nil (suc n) = refl

record IsBoundEntry (o : Option MapText) : Type 0 where
  number : ℤ
  within : IsBound number
  normal : normal_of o [] ≡ record { map = bound_map number; operands = [] }

bound_entry : (o : Option MapText) → is_affine o ≡ true → is_constant_bound o ≡ true → IsBoundEntry o
bound_entry None affine h = absurd (cc)
bound_entry (Some m) affine h = let b = bound_taken m affine h in record { number = b.number; within = b.within; normal = b.normal }

one_step : (o : Option ℤ) → option_eq int_eq o (Some (pos 1)) ≡ true → step_of o ≡ 1
one_step None h = absurd (cc)
one_step (Some z) h = let same : z ≡ pos 1 = (Decides-int_eq z (pos 1)).0 h in ap (λ x. step_of (Some x)) same

-- ---- operations of the function
-- an operation is a step's, with its marks
pub record IsTaken (scope after : Scope) (visible : List ℕ) (place : Place) (node : Node) (one : Op) : Type 0 where
  pub taken : Taken
  pub sound : IsSoundStep visible place taken
  pub made : marked_op one place.loops ≡ record { made = step_op taken place; loops = (after_step taken place).loops }
  pub behind : Matches after (visible_behind taken place visible) (after_step taken place)
  pub few : (after_step taken place).number ≤ place.number + operations_in node

module _ (scope : Scope) (visible : List ℕ) (place : Place) (h : Matches scope visible place) (node : Node) (plain : is_plain_loop node ≡ true) where
  -- the node's parts, each from its form
  record IsLoopNode : Type 0 where
    body : Body
    arg : BodyArg
    regions : (out-Node node).regions ≡ body ∷ []
    args : (out-Body body).args ≡ arg ∷ []
    block : is_block (is_in_loop arg.name) (is_end (codes "affine.yield")) (out-Body body).nodes ≡ true
    operands : (out-Node node).operands ≡ []
    lower : is_constant_bound (lower_map node) ≡ true
    upper : is_constant_bound (upper_map node) ≡ true
    one : step_of (number_of (entry_of (codes "step") node)) ≡ 1

  loop_node : IsLoopNode
  unfolding is_plain_loop
  loop_node =
      let p9 = both _ _ plain in
      let p8 = both _ _ p9.0 in
      let p7 = both _ _ p8.0 in
      let p6 = both _ _ p7.0 in
      let p5 = both _ _ p6.0 in
      let p4 = both _ _ p5.0 in
      let body = only_one is_loop_body (out-Node node).regions p9.1 in
      let arg = only_one (λ (variable : BodyArg). is_block (is_in_loop variable.name) (is_end (codes "affine.yield")) (out-Body body.0).nodes) (out-Body body.0).args body.2 in
      record {
        body = body.0;
        arg = arg.0;
        regions = body.1;
        args = arg.1;
        block = arg.2;
        operands = no_operands (out-Node node).operands p4.1;
        lower = p5.1;
        upper = p6.1;
        one = one_step (number_of (entry_of (codes "step") node)) p7.1;
      }

  -- what the region gives
  record IsRegioned (body : Body) (r : Step Region) : Type 0 where
    lines : List Line
    sound : AreSoundLines (visible ++ next_in place ∷ []) (inside place) lines
    ops : List Op
    given : r.given ≡ region_of (value (next_in place) ∷ []) ops
    made : (loops : ℕ) → in_turn (map marked_op ops) loops ≡ record { made = line_ops (next_in place) lines (inside place); loops = loops }
    behind : Matches r.scope visible (passed (after_lines lines (inside place)))
    few : (after_lines lines (inside place)).number + 1 ≤ (inside place).number + operations_within body

  module _ (arg : BodyArg) (fresh : is_visible scope.names arg.name ≡ false) where
    abbrev start : Scope
    start = defined (numbered scope) arg.name (ty.Scalar Index) Dimension

    closes : (after : Scope) (seen : List ℕ) (more : List Binding) (lines : List Line) → Matches after seen (passed (after_lines lines (inside place)))
        → after.names ≡ bound scope.names arg.name (next_value scope) ++ more
        → Matches (closed (numbered scope) after) visible (passed (after_lines lines (inside place)))
    unfolding passed
    closes after seen more lines b longer =
        let names_are : take (length scope.names) after.names ≡ scope.names =
        ap (take (length scope.names)) (longer ∙ ap (λ ns. ns ++ more) (bound_fresh scope.names arg.name (next_value scope) fresh)
        ∙ append_assoc scope.names (binds arg.name (next_value scope) ∷ []) more)
        ∙ take-append_seam scope.names (binds arg.name (next_value scope) ∷ more) in
        record {
          owners = b.owners;
          values = b.values;
          names = ap numbers_in names_are ∙ h.names;
          below = λ v i. let below : v < length place.types = h.below v i in omega (arith, below, inside_grows place, lines_grow lines (inside place));
          plain = b.plain;
        }

    region_lines : (loop : ℕ → Scope → Node → Outcome (Step Op)) (body : Body) (t : Step (List Op)) (r : Step Region)
        → Lines loop (next_in place) arg.name [] start (visible ++ next_in place ∷ []) (inside place) (out-Body body).nodes t
        → (let o : Outcome (Step Region) = step (region_of (value (length scope.values) ∷ []) t.given) (closed (numbered scope) t.scope) in o ≡ gives r)
        → IsRegioned body r
    region_lines loop body t r l gave =
        let is = given_is (record { given = region_of (value (length scope.values) ∷ []) t.given; scope = closed (numbered scope) t.scope }) r gave in
        subst (λ (x : Step Region). IsRegioned body x) is
        (record {
          lines = l.lined.lines;
          sound = l.lined.sound;
          ops = l.ops;
          given = ap (λ (ts : List Ty). region_of (value (length ts) ∷ []) t.given) h.values ∙ ap (region_of (value (next_in place) ∷ [])) l.given;
          made = l.lined.made;
          behind = closes t.scope l.lined.seen l.lined.more l.lined.lines l.lined.behind l.lined.longer;
          few = omega (arith, l.lined.few, in_body body);
        })

    region_taken : (loop : ℕ → Scope → Node → Outcome (Step Op)) (body : Body) (r : Step Region)
        → (out-Body body).args ≡ arg ∷ [] → unwrap_or (type_of arg.ty) (ty.Scalar Index) ≡ ty.Scalar Index
        → is_block (is_in_loop arg.name) (is_end (codes "affine.yield")) (out-Body body).nodes ≡ true
        → region_with (operation_with loop) Dimension (numbered scope) body ≡ gives r → IsRegioned body r
    unfolding region_with
    region_taken loop body r args typed block gave =
        let one_arg : next (in_order (operation_with loop) [] (defined (numbered scope) arg.name (unwrap_or (type_of arg.ty) (ty.Scalar Index)) Dimension) (out-Body body).nodes)
        (λ s. step (region_of (value (length scope.values) ∷ []) s.given) (closed (numbered scope) s.scope)) ≡ gives r =
        subst (λ (as' : List BodyArg). next (in_order (operation_with loop) [] (with_arguments (numbered scope) Dimension as') (out-Body body).nodes)
        (λ s. step (region_of (argument_values (length scope.values) as') s.given) (closed (numbered scope) s.scope)) ≡ gives r) args gave in
        let index_arg : next (in_order (operation_with loop) [] start (out-Body body).nodes)
        (λ s. step (region_of (value (length scope.values) ∷ []) s.given) (closed (numbered scope) s.scope)) ≡ gives r =
        subst (λ (t : Ty). next (in_order (operation_with loop) [] (defined (numbered scope) arg.name t Dimension) (out-Body body).nodes)
        (λ s. step (region_of (value (length scope.values) ∷ []) s.given) (closed (numbered scope) s.scope)) ≡ gives r) typed one_arg in
        let n = next_gives (in_order (operation_with loop) [] start (out-Body body).nodes)
        (λ s. step (region_of (value (length scope.values) ∷ []) s.given) (closed (numbered scope) s.scope)) r index_arg in
        let l = lines_taken loop (next_in place) arg.name (out-Body body).nodes [] start (visible ++ next_in place ∷ []) (inside place) n.0
        (matches_inside scope visible place h arg.name Dimension fresh) (counter_named scope visible place h arg.name Dimension fresh) block n.1 in
        region_lines loop body n.0 r l n.2

  -- the loop itself
  loop_is : (lower upper : ℤ) (operands : List ValueId) (region : Region) (number : ℕ) → operands ≡ []
      → normal_of (lower_map node) [] ≡ record { map = bound_map lower; operands = [] } → normal_of (upper_map node) [] ≡ record { map = bound_map upper; operands = [] }
      → step_of (number_of (entry_of (codes "step") node)) ≡ 1
      → loop_op node operands (region ∷ []) number ≡ op_of number (AffineFor (bound_map lower) (bound_map upper) 1) [] [] (region ∷ []) (marks_of Loop node)
  loop_is lower upper operands region number none first second one =
      ap (λ (l : List ValueId). loop_op node l (region ∷ []) number) none
      ∙ ap (λ (u : MapUse). loop_between u (normal_of (upper_map node) (upper_values node [])) node (region ∷ []) number) (ap (normal_of (lower_map node)) (take_nil (arity_of (lower_map node))) ∙ first)
      ∙ ap (λ (u : MapUse). loop_between (record { map = bound_map lower; operands = [] }) u node (region ∷ []) number) (ap (normal_of (upper_map node)) (drop_nil (arity_of (lower_map node))) ∙ second)
      ∙ ap (λ (n : ℕ). op_of number (AffineFor (bound_map lower) (bound_map upper) n) [] [] (region ∷ []) (marks_of Loop node)) one

  loop_whole : (number : ℕ) (body : Body) (r : Step Region) (lower upper : ℤ) (operands : List ValueId) (s : Step Op) → number ≡ length scope.owners → (out-Node node).regions ≡ body ∷ []
      → IsRegioned body r → IsBound lower → IsBound upper
      → loop_op node operands (r.given ∷ []) number ≡ op_of number (AffineFor (bound_map lower) (bound_map upper) 1) [] [] (r.given ∷ []) (marks_of Loop node)
      → (let o : Outcome (Step Op) = step (loop_op node operands (r.given ∷ []) number) r.scope in o ≡ gives s)
      → IsTaken scope s.scope visible place node s.given
  unfolding IsSoundStep after_step passed
  loop_whole number body r lower upper operands s counted_here regions g low high is gave =
      subst (λ (x : Step Op). IsTaken scope x.scope visible place node x.given) (given_is (record { given = loop_op node operands (r.given ∷ []) number; scope = r.scope }) s gave)
      (record {
        taken = counted lower upper g.lines;
        sound = (low, high, g.sound);
        made =
            ap (λ o. marked_op o place.loops) (is ∙ ap (λ g. op_of number (AffineFor (bound_map lower) (bound_map upper) 1) [] [] (g ∷ []) (marks_of Loop node)) g.given)
            ∙ loop_made place lower upper (next_in place) g.lines g.ops number (marks_of Loop node) (here 0 scope visible place number h counted_here) refl refl g.made
            ∙ ap (λ (n : ℕ). let m : Made Op = record { made = step_op (counted lower upper g.lines) place; loops = n } in m)
            (sym (lines_loops g.lines (inside place) ∙ inside_loops place));
        behind = g.behind;
        few =
            omega (
              arith,
              g.few,
              inside_number place,
              in_node node,
              ap (λ (bs : List Body). total (map operations_within bs)) regions,
              sum_by-cons (λ (n : ℕ). n) (operations_within body) [],
            );
      })

  fresh_variable : (names : List Binding) (body : Body) (arg : BodyArg) → (out-Node node).regions ≡ body ∷ [] → (out-Body body).args ≡ arg ∷ []
      → are_new names [] (out-Node node).regions ≡ true → is_visible names arg.name ≡ false
  fresh_variable names body arg regions args new =
      let one : are_new names [] (body ∷ []) ≡ true = subst (λ (bs : List Body). are_new names [] bs ≡ true) regions new in
      let first : are_fresh names [] (arg ∷ []) ≡ true = subst (λ (as' : List BodyArg). are_fresh names [] as' ≡ true) args (both _ _ one).0 in
      denied _ (both _ _ (both _ _ first).0).0

  index_variable : (body : Body) (arg : BodyArg) → (out-Node node).regions ≡ body ∷ [] → (out-Body body).args ≡ arg ∷ []
      → list_all (λ b. list_all is_index (out-Body b).args) (out-Node node).regions ≡ true
      → unwrap_or (type_of arg.ty) (ty.Scalar Index) ≡ ty.Scalar Index
  index_variable body arg regions args all =
      let one : list_all (λ (b : Body). list_all is_index (out-Body b).args) (body ∷ []) ≡ true =
      subst (λ (bs : List Body). list_all (λ (b : Body). list_all is_index (out-Body b).args) bs ≡ true) regions all in
      let first : list_all is_index (arg ∷ []) ≡ true = subst (λ (as' : List BodyArg). list_all is_index as' ≡ true) args (both _ _ one).0 in
      index_type arg.ty (both _ _ first).0

  loop_with_taken : (loop : ℕ → Scope → Node → Outcome (Step Op)) (number : ℕ) (s : Step Op) → number ≡ length scope.owners
      → loop_with true (only_region (region_with (operation_with loop) Dimension)) number (numbered scope) node ≡ gives s
      → IsTaken scope s.scope visible place node s.given
  unfolding loop_with
  loop_with_taken loop number s counted_here given =
      let l = loop_node in
      let region = only_region (region_with (operation_with loop) Dimension) in
      let operands = operands_of (numbered scope) node in
      let none : operands ≡ [] = ap (values_named scope.names) l.operands in
      let c = checked_gives number (first_failing (loop_rules (are_new scope.names [] (out-Node node).regions) true (numbered scope) node operands))
      (next (region (numbered scope) (out-Node node).regions) (λ r. step (loop_op node operands (r.given ∷ []) number) r.scope)) s given in
      let rules = all_hold (loop_rules (are_new scope.names [] (out-Node node).regions) true (numbered scope) node operands) c.0 in
      let n = next_gives (region (numbered scope) (out-Node node).regions) (λ r. step (loop_op node operands (r.given ∷ []) number) r.scope) s c.1 in
      let affine = both _ _ rules.1.1.1.1.1.1.1.1.1.1.1.0 in
      let low = bound_entry (lower_map node) affine.0 l.lower in
      let high = bound_entry (upper_map node) affine.1 l.upper in
      let fresh = fresh_variable scope.names l.body l.arg l.regions l.args rules.1.1.0 in
      let typed = index_variable l.body l.arg l.regions l.args (both _ _ (both _ _ rules.1.1.1.0).0).1 in
      let one : region_with (operation_with loop) Dimension (numbered scope) l.body ≡ gives n.0 =
      subst (λ (bs : List Body). region (numbered scope) bs ≡ gives n.0) l.regions n.1 in
      let g = region_taken l.arg fresh loop l.body n.0 l.args typed l.block one in
      loop_whole number l.body n.0 low.number high.number operands s counted_here l.regions g low.within high.within
      (loop_is low.number high.number operands n.0.given number none low.normal high.normal l.one) n.2

-- a loop, whatever may still be opened
pub loop_taken : (room : ℕ) (scope : Scope) (visible : List ℕ) (place : Place) (number : ℕ) (node : Node) (s : Step Op) → Matches scope visible place → is_plain_loop node ≡ true
    → number ≡ length scope.owners → loop_of room number (numbered scope) node ≡ gives s → IsTaken scope s.scope visible place node s.given
unfolding loop_of loop_with
loop_taken zero scope visible place number node s h plain counted_here given =
    let operands = operands_of (numbered scope) node in
    let c = checked_gives number (first_failing (loop_rules (are_new scope.names [] (out-Node node).regions) false (numbered scope) node operands)) _ s given in
    let rules = all_hold (loop_rules (are_new scope.names [] (out-Node node).regions) false (numbered scope) node operands) c.0 in
    let never : false ≡ true = (both (has_few_results (lower_map node) && has_few_results (upper_map node)) false rules.1.1.1.1.1.1.1.1.1.1.1.1.0).1 in
    absurd (cc)
loop_taken (suc room) scope visible place number node s h plain counted_here given =
    loop_with_taken scope visible place h node plain (loop_of room) number s counted_here given

named_loop : (node : Node) → is_plain_loop node ≡ true → is_named (codes "affine.for") node ≡ true
unfolding is_plain_loop
named_loop node p = (both _ _ (both _ _ (both _ _ (both _ _ (both _ _ (both _ _ (both _ _ p).0).0).0).0).0).0).0

-- ---- constants
module _ (scope : Scope) (visible : List ℕ) (place : Place) (h : Matches scope visible place) (node : Node) (number : ℕ) (counted_here : number ≡ length scope.owners) where
  constant_step : (name : List ℕ) (elem : Elem) (role : Role) (pattern : ℕ) → is_visible scope.names name ≡ false → elem ≡ Int W32 → pattern < 2 ^ 32
      → IsTaken scope (defined (numbered scope) name (ty.Scalar elem) role) visible place node
      (op_of number (ArithConstant (Splat pattern)) [] (next_value (numbered scope) ∷ []) [] no_marks)
  unfolding step_op after_step IsSoundStep with_result
  constant_step name elem role pattern fresh is below =
      let one = op_of number (ArithConstant (Splat pattern)) [] (next_value (numbered scope) ∷ []) [] no_marks in
      subst (λ (e : Elem). IsTaken scope (defined (numbered scope) name (ty.Scalar e) role) visible place node one) (sym is)
      (record {
        taken = single pattern;
        sound = below;
        made = flat_op (ArithConstant (Splat pattern)) no_marks place.loops refl number place.number [] (next_value (numbered scope) ∷ []) [] (next_in place ∷ [])
            (here 0 scope visible place number h counted_here) refl (next_here 0 scope visible place number h counted_here);
        behind = matches_result scope visible place h name element role fresh tt;
        few = omega (arith, some_operations node);
      })

module _ (room : ℕ) (is_last : Bool) (scope : Scope) (visible : List ℕ) (place : Place) (h : Matches scope visible place) (node : Node) (s : Step Op)
    (given : operation_with (loop_of room) is_last scope node ≡ gives s) where
  constant_op_taken : is_plain_constant node ≡ true → IsTaken scope s.scope visible place node s.given
  unfolding known_with
  constant_op_taken is =
      step_taken (λ one after. IsTaken scope after visible place node one) (length scope.owners) (first_failing (constant_rules (numbered scope) node))
      (constant_op (numbered scope) node (length scope.owners)) (defined (numbered scope) (result_name node) (ty.Scalar (constant_elem node)) Plain) s
      (λ none.
      let c = constant_is 0 scope visible place (length scope.owners) h refl node is none in
      constant_step scope visible place h node (length scope.owners) refl (result_name node) (constant_elem node) Plain (constant_pattern node) c.fresh c.typed c.below)
      (row_given (loop_of room) is_last scope node s given (codes "arith.constant") Constant (both _ _ (both _ _ is).0).0 refl)

  loop_op_taken : is_plain_loop node ≡ true → IsTaken scope s.scope visible place node s.given
  unfolding known_with
  loop_op_taken is =
      loop_taken room scope visible place (length scope.owners) node s h is refl
      (row_given (loop_of room) is_last scope node s given (codes "affine.for") Loop (named_loop node is) refl)

  pub operation_taken : is_in_function node ≡ true → IsTaken scope s.scope visible place node s.given
  operation_taken is = elim (either (is_plain_constant node) (is_plain_loop node) is) [ inl a ↦ constant_op_taken a | inr b ↦ loop_op_taken b ]
