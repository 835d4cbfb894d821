-- The loops of a program that are read again, and the operations of its function.
use Rattle.std.proofs.Common.{◌≡◌, ◌∙◌, ℕ, suc, ◌+◌, ◌-◌, ◌<◌, ◌^◌, arith, Bool, true, false, List, [], ◌∷◌, ◌++◌, append_assoc, append-nil, Some, length, take, drop, refl, ap, sym, subst}
use Rattle.std.specs.Prelude.{ℤ, not, ◌&&◌, ◌==◌, Option, is_some, slice_get, codes}
use Rattle.std.specs.List.{list_all}
use Rattle.std.specs.Option.{option_map_or}
use Rattle.std.specs.Str.{bytes_eq}
use Rattle.std.proofs.Math.Seq.{take-append_seam}
use Rattle.av_ir.specs.declared.ty.Elem.TheVariants.{Index}
use Rattle.av_ir.specs.declared.ty.Ty.{Ty}
use Rattle.av_ir.specs.declared.ty.Ty.TheVariants as ty
use Rattle.av_ir.specs.declared.module.OpKind.TheVariants.{FuncReturn, AffineFor, AffineYield}
use Rattle.av_ir.specs.declared.module.Op.{Op}
use Rattle.av_ir.specs.declared.module.Region.{Region}
use Rattle.av_tree.specs.declared.node.Body.{Body, Body-F, out-Body, out-roll-Body}
use Rattle.av_tree.specs.declared.node.BodyArg.{BodyArg}
use Rattle.av_tree.specs.declared.node.Node.{Node, out-Node, roll-Node}
use Rattle.av_tree.specs.declared.written.MapText.{MapText}
use Rattle.av_printer.specs.declared.form.Form.{Form}
use Rattle.av_printer.specs.declared.form.Form.TheVariants as forms
use Rattle.av_totree.specs.Names.{argument_name, operation_name}
use Rattle.av_verify.specs.Parts.{MapUse, Dimension, Plain, Scope, Return, Loop, Yield}
use Rattle.av_verify.specs.Elaboration.{Outcome, gives, checked, Step, step, numbered, in_order, with_arguments, argument_values, closed, region_of, region_with, only_region, loop_with, loop_of, known_with, operation_with}
use Rattle.av_verify.specs.Elaboration as walk
use Rattle.av_verify.specs.Accesses.{has_few_results, normal_of}
use Rattle.av_verify.specs.Arith.{operands_of}
use Rattle.av_verify.specs.Expressions.{is_affine}
use Rattle.av_verify.specs.Ends.{end_rules, end_op}
use Rattle.av_verify.specs.Entries.{entry_of, number_of, has_needed, marks_of, marked}
use Rattle.av_verify.specs.FirstPath.{is_last}
use Rattle.av_verify.specs.Loops.{are_fresh, are_new, is_index, end_with, has_one_variable, lower_map, upper_map, arity_of, is_parted, is_step, loop_agrees, has_loop_entries, bounds_dimensions, loop_rules, step_of, loop_op, loop_between}
use Rattle.av_verify.specs.Names.{Binding, binds, is_visible}
use Rattle.av_verify.specs.Ops.{op_of, no_marks}
use Rattle.av_verify.specs.Scopes.{defined}
use Rattle.av_program_laws.specs.Programs.{Line, single, counted}
use Rattle.av_program_laws.specs.Programs as programs
use Rattle.av_program_laws.specs.Walks.{Place, element, next, passed, after_line, after_lines, inside, after_step, after_steps}
use Rattle.av_program_laws.specs.Modules.{value, op, bound_map, loop_mark, line_op, line_ops, loop_region, step_op, step_ops}
use Rattle.av_program_laws.specs.WrittenTrees.{argument, end_node, loop_body}
use Rattle.av_program_laws.specs.WrittenTrees as written
use Rattle.av_program_laws.specs.ReadTrees.{node, line_node, line_nodes, loop_properties, step_node, step_nodes}
use Rattle.av_program_laws.specs.Sound.{IsAmong, IsBound, AreSoundLines, IsSoundStep, AreSoundSteps, visible_after, visible_behind}
use Rattle.av_program_laws.proofs.AgainRules.{AllHold, all_checked, both_true, small_mark}
use Rattle.av_program_laws.proofs.TakenScopes.{one_more_owner}
use Rattle.av_program_laws.proofs.AgainScopes.{among_end, get_end, AreNamed, Fits, names_with, fits_passed, operation_new, argument_new, fits_result, fits_argument}
use Rattle.av_program_laws.proofs.AgainSubscripts.{const_affine, const_normal}
use Rattle.av_program_laws.proofs.AgainLines.{written_regions, read_regions, none_here, IsSmall, counted_here, constant_again, line_again}
use Rattle.av_program_laws.proofs.AgainNames.{AreOld, old_more}
use Rattle.av_program_laws.proofs.AgainPlaces.{before_trans, before_line, before_lines, before_end, before_passed, before_step, before_steps, small_before, named_behind}

-- ---- ends
module _ (loop : ℕ → Scope → Node → Outcome (Step Op)) (scope : Scope) (visible : List ℕ) (place : Place) (h : Fits scope visible place) where
  abbrev S : Scope
  S = numbered scope

  yield_hold : AllHold (end_rules Yield true S (end_node (codes "affine.yield") place))
  unfolding end_node written.node out-Node roll-Node denote.Hole.Carrier.out denote.Hole.Carrier.roll
  yield_hold =
      let plain = none_here (out-Node (end_node (codes "affine.yield") place)).regions (written_regions (codes "affine.yield") place [] [] [] [] [] []) in
      (refl, (refl, (refl, (refl, (refl, (refl, (refl, (plain, tt))))))))

  yield_again : operation_with loop true scope (end_node (codes "affine.yield") place) ≡ step (op place.number AffineYield [] [] [] no_marks) S
  unfolding end_node written.node out-Node roll-Node denote.Hole.Carrier.out denote.Hole.Carrier.roll operation_with known_with op op_of
  yield_again =
      let node = end_node (codes "affine.yield") place in
      all_checked (length scope.owners) (end_rules Yield true S node) (step (end_op Yield S node (length scope.owners)) S) yield_hold
      ∙ ap (λ n. step (op_of n AffineYield [] [] [] no_marks) S) (counted_here scope visible place h)

  return_hold : AllHold (end_rules Return true S (end_node (codes "func.return") place))
  unfolding end_node written.node out-Node roll-Node denote.Hole.Carrier.out denote.Hole.Carrier.roll
  return_hold =
      let plain = none_here (out-Node (end_node (codes "func.return") place)).regions (written_regions (codes "func.return") place [] [] [] [] [] []) in
      (refl, (refl, (refl, (refl, (refl, (refl, (refl, (plain, tt))))))))

  pub return_again : operation_with loop true scope (end_node (codes "func.return") place) ≡ step (op place.number FuncReturn [] [] [] no_marks) S
  unfolding end_node written.node out-Node roll-Node denote.Hole.Carrier.out denote.Hole.Carrier.roll operation_with known_with op op_of
  return_again =
      let node = end_node (codes "func.return") place in
      all_checked (length scope.owners) (end_rules Return true S node) (step (end_op Return S node (length scope.owners)) S) return_hold
      ∙ ap (λ n. step (op_of n FuncReturn [] [] [] no_marks) S) (counted_here scope visible place h)

-- ---- the operations of a region in order
module _ (operation : Bool → Scope → Node → Outcome (Step Op)) where
  pub last_in_order : (done : List Op) (scope after : Scope) (node : Node) (one : Op) → operation true scope node ≡ step one after
      → in_order operation done scope (node ∷ []) ≡ step (done ++ one ∷ []) after
  last_in_order done scope after node one h = ap (λ (o : Outcome (Step Op)). walk.next o (λ s. step (done ++ s.given ∷ []) s.scope)) h

  pub first_in_order : (done ops : List Op) (scope between after : Scope) (node : Node) (nodes : List Node) (one : Op)
      → ((is_last : Bool) → operation is_last scope node ≡ step one between)
      → ((done : List Op) → in_order operation done between nodes ≡ step (done ++ ops) after)
      → in_order operation done scope (node ∷ nodes) ≡ step (done ++ one ∷ ops) after
  first_in_order done ops scope between after node nodes one h more =
      ap (λ (o : Outcome (Step Op)). walk.next o (λ s. in_order operation (done ++ s.given ∷ []) s.scope nodes)) (h (length (node ∷ nodes) == 1))
      ∙ more (done ++ one ∷ [])
      ∙ ap (λ (l : List Op). step l after) (append_assoc done (one ∷ []) ops)

-- the nodes of lines, with their end, give the operations of lines
pub record AreLines (form : Form) (loop : ℕ → Scope → Node → Outcome (Step Op)) (counter : ℕ) (scope : Scope) (place : Place) (lines : List Line) : Type 0 where
  pub after : Scope
  pub seen : List ℕ
  pub gives : (done : List Op) → in_order (operation_with loop) done scope (line_nodes form counter lines place) ≡ step (done ++ line_ops counter lines place) after
  pub fits : Fits after seen (passed (after_lines lines place))
  pub more : List Binding
  pub longer : after.names ≡ scope.names ++ more

pub lines_again : (form : Form) (loop : ℕ → Scope → Node → Outcome (Step Op)) (counter : ℕ) (lines : List Line) (scope : Scope) (visible : List ℕ) (place : Place)
    → Fits scope visible place → IsSmall (after_lines lines place) → slice_get scope.roles counter ≡ Some Dimension
    → slice_get scope.values counter ≡ Some (ty.Scalar Index) → IsAmong visible counter
    → AreSoundLines visible place lines → AreLines form loop counter scope place lines
unfolding after_lines line_nodes line_ops AreSoundLines
lines_again form loop counter [] scope visible place h small role counts among sound = record {
  after = numbered scope;
  seen = visible;
  gives = λ done. last_in_order (operation_with loop) done scope (numbered scope) (end_node (codes "affine.yield") place) (op place.number AffineYield [] [] [] no_marks)
      (yield_again loop scope visible place h);
  fits = fits_passed scope visible place h;
  more = [];
  longer = sym (append-nil scope.names);
}
lines_again form loop counter (line ∷ lines) scope visible place h small role counts among sound =
    let small_here = small_before place (after_lines lines (after_line line place))
    (before_trans place (after_line line place) (after_lines lines (after_line line place)) (before_line line place) (before_lines lines (after_line line place))) small in
    let one = line_again form loop counter scope visible place h small_here role counts among line sound.0 in
    let rest = lines_again form loop counter lines one.after (visible_after line place visible) (after_line line place) one.fits small one.role one.counts one.among sound.1 in
    record {
      after = rest.after;
      seen = rest.seen;
      gives = λ done. first_in_order (operation_with loop) done (line_ops counter lines (after_line line place)) scope one.after rest.after (line_node form counter line place)
          (line_nodes form counter lines (after_line line place)) (line_op counter line place) one.gives rest.gives;
      fits = rest.fits;
      more = one.more ++ rest.more;
      longer = rest.longer ∙ ap (λ (l : List Binding). l ++ rest.more) one.longer ∙ append_assoc scope.names one.more rest.more;
    }

-- ---- the last operation of a region
last_more : {A : Type 0} (p : A → Bool) (x y : A) (ys : List A) → is_last p (y ∷ ys) ≡ true → is_last p (x ∷ y ∷ ys) ≡ true
last_more p x y ys h =
    let e : length (x ∷ y ∷ ys) - 1 ≡ suc (length (y ∷ ys) - 1) = omega arith in
    ap (λ n. option_map_or p (slice_get (x ∷ y ∷ ys) n) false) e ∙ h

abbrev pub ends_as : List ℕ → Node → Bool
ends_as name node = bytes_eq (out-Node node).name name

pub record IsMore {A : Type 0} (xs : List A) : Type 0 where
  pub first : A
  pub rest : List A
  pub is : xs ≡ first ∷ rest

some_lines : (form : Form) (counter : ℕ) (lines : List Line) (place : Place) → IsMore (line_nodes form counter lines place)
unfolding line_nodes
some_lines form counter [] place = record { first = end_node (codes "affine.yield") place; rest = []; is = refl }
some_lines form counter (line ∷ lines) place = record { first = line_node form counter line place; rest = line_nodes form counter lines (after_line line place); is = refl }

last_behind : {A : Type 0} (p : A → Bool) (x : A) (xs : List A) → IsMore xs → is_last p xs ≡ true → is_last p (x ∷ xs) ≡ true
last_behind p x xs m h =
    ap (λ l. is_last p (x ∷ l)) m.is ∙ last_more p x m.first m.rest (ap (is_last p) (sym m.is) ∙ h)

yields : (place : Place) → ends_as (codes "affine.yield") (end_node (codes "affine.yield") place) ≡ true
unfolding end_node written.node out-Node roll-Node denote.Hole.Carrier.out denote.Hole.Carrier.roll
yields place = refl

last_line : (form : Form) (counter : ℕ) (lines : List Line) (place : Place) → is_last (ends_as (codes "affine.yield")) (line_nodes form counter lines place) ≡ true
unfolding line_nodes
last_line form counter [] place = yields place
last_line form counter (line ∷ lines) place =
    last_behind (ends_as (codes "affine.yield")) (line_node form counter line place) (line_nodes form counter lines (after_line line place))
    (some_lines form counter lines (after_line line place)) (last_line form counter lines (after_line line place))

-- ---- what the properties and marks of a loop say
record Says (lower upper : ℤ) (scope : Scope) (place : Place) (loop : Node) : Type 0 where
  lower_there : lower_map loop ≡ Some (written.bound_map lower)
  upper_there : upper_map loop ≡ Some (written.bound_map upper)
  needed : has_needed Loop loop ≡ true
  entries : has_loop_entries loop ≡ true
  parted : is_parted loop 0 ≡ true
  dimensions : bounds_dimensions scope loop [] ≡ true
  step_fits : is_step (number_of (entry_of (codes "step") loop)) ≡ true
  step_is : step_of (number_of (entry_of (codes "step") loop)) ≡ 1
  few : has_few_results (lower_map loop) && has_few_results (upper_map loop) && true ≡ true
  marks : marks_of Loop loop ≡ loop_mark place.loops

says : (form : Form) (lower upper : ℤ) (lines : List Line) (scope : Scope) (place : Place) → place.loops < 2 ^ 64
    → Says lower upper scope place (step_node form (counted lower upper lines) place)
unfolding step_node node out-Node roll-Node denote.Hole.Carrier.out denote.Hole.Carrier.roll
says forms.Named lower upper lines scope place below = record {
  lower_there = refl;
  upper_there = refl;
  needed = refl;
  entries = ap (λ o. is_some o && true && true && true && true && true) (small_mark place.loops below);
  parted = refl;
  dimensions = refl;
  step_fits = refl;
  step_is = refl;
  few = refl;
  marks = ap (marked Loop) (small_mark place.loops below);
}
says forms.Generic lower upper lines scope place below = record {
  lower_there = refl;
  upper_there = refl;
  needed = refl;
  entries = ap (λ o. is_some o && true && true && true && true && true) (small_mark place.loops below);
  parted = refl;
  dimensions = refl;
  step_fits = refl;
  step_is = refl;
  few = refl;
  marks = ap (marked Loop) (small_mark place.loops below);
}

-- ---- loops
module _ (form : Form) (place : Place) (lower upper : ℤ) (lines : List Line) where
  abbrev loop_node : Node
  loop_node = step_node form (counted lower upper lines) place

  abbrev nodes : List Node
  nodes = line_nodes form (next place) lines (inside place)

  abbrev arg : BodyArg
  arg = argument (argument_name place.arguments) (ty.Scalar Index)

  abbrev body : Body
  body = loop_body nodes place

  abbrev behind : Place
  behind = passed (after_lines lines (inside place))

  body_out : out-Body body ≡ record { args = arg ∷ []; nodes = nodes }
  unfolding loop_body
  body_out = out-roll-Body (record { args = arg ∷ []; nodes = nodes })

  regions_are : (out-Node loop_node).regions ≡ body ∷ []
  unfolding step_node
  regions_are = read_regions (codes "affine.for") place [] [] [] [] (loop_properties form lower upper) (written.mark (codes "affvec.loop") place.loops) (body ∷ [])

  module _ (room : ℕ) (scope : Scope) (visible : List ℕ) (h : Fits scope visible place) (small : IsSmall behind)
      (lower_bound : IsBound lower) (upper_bound : IsBound upper) (sound : AreSoundLines (visible ++ next place ∷ []) (inside place) lines) where
    abbrev outer : Scope
    outer = numbered scope

    small_here : IsSmall place
    small_here = small_before place behind (before_end lines place) small

    fresh : is_visible scope.names (argument_name place.arguments) ≡ false
    fresh = argument_new scope visible place h small_here.arguments small_here.operations

    -- ---- rules
    new_hold : are_new outer.names [] (out-Node loop_node).regions ≡ true
    new_hold =
        ap (are_new outer.names []) regions_are
        ∙ ap (λ (b : Body-F Body Node). are_fresh outer.names [] b.args && true) body_out
        ∙ ap (λ v. (not v && not (is_visible [] arg.name) && true) && true) fresh

    agrees_hold : loop_agrees outer loop_node (operands_of outer loop_node) ≡ true
    unfolding step_node node out-Node roll-Node denote.Hole.Carrier.out denote.Hole.Carrier.roll
    agrees_hold =
        ap (λ (rs : List Body). true && list_all (λ (b : Body). list_all is_index (out-Body b).args) rs && true) regions_are
        ∙ ap (λ (b : Body-F Body Node). true && (list_all is_index b.args && true) && true) body_out

    end_hold : end_with (codes "affine.yield") (out-Node loop_node).regions ≡ true
    end_hold =
        ap (end_with (codes "affine.yield")) regions_are
        ∙ ap (λ (b : Body-F Body Node). is_last (ends_as (codes "affine.yield")) b.nodes && true) body_out
        ∙ ap (λ b. b && true) (last_line form (next place) lines (inside place))

    one_hold : has_one_variable (out-Node loop_node).regions ≡ true
    one_hold = ap has_one_variable regions_are ∙ ap (λ (b : Body-F Body Node). length b.args == 1) body_out

    said : Says lower upper outer place loop_node
    said = says form lower upper lines outer place small_here.loops

    affine_hold : is_affine (lower_map loop_node) && is_affine (upper_map loop_node) ≡ true
    affine_hold =
        both_true (is_affine (lower_map loop_node)) (is_affine (upper_map loop_node)) (ap is_affine said.lower_there ∙ const_affine lower lower_bound)
        (ap is_affine said.upper_there ∙ const_affine upper upper_bound)

    loop_hold : AllHold (loop_rules (are_new outer.names [] (out-Node loop_node).regions) true outer loop_node (operands_of outer loop_node))
    unfolding step_node node out-Node roll-Node denote.Hole.Carrier.out denote.Hole.Carrier.roll
    loop_hold = (
      refl,
      (
        refl,
        (
          new_hold,
          (
            agrees_hold,
            (
              said.needed,
              (
                said.entries,
                (
                  said.parted,
                  (
                    said.dimensions,
                    (
                      said.step_fits,
                      (
                        end_hold,
                        (
                          one_hold,
                          (affine_hold, (said.few, tt)),
                        ),
                      ),
                    ),
                  ),
                ),
              ),
            ),
          ),
        ),
      ),
    )

    -- ---- the region
    abbrev begun : Place
    begun = record place { number = place.number + 1; loops = place.loops + 1 }

    begun_fits : Fits outer visible begun
    begun_fits = record {
      owners = one_more_owner scope.owners place.number h.owners;
      values = h.values;
      roles = h.roles;
      named = h.named;
      old = h.old;
      each = h.each;
    }

    abbrev start : Scope
    start = defined outer arg.name (ty.Scalar Index) Dimension

    start_fits : Fits start (visible ++ next place ∷ []) (inside place)
    unfolding inside
    start_fits = fits_argument outer visible begun begun_fits (ty.Scalar Index) Dimension fresh

    start_role : slice_get start.roles (next place) ≡ Some Dimension
    start_role = ap (λ n. slice_get (scope.roles ++ Dimension ∷ []) n) (sym h.roles) ∙ get_end scope.roles Dimension

    start_counts : slice_get start.values (next place) ≡ Some (ty.Scalar Index)
    start_counts = ap (λ (l : List Ty). slice_get (scope.values ++ ty.Scalar Index ∷ []) (length l)) (sym h.values) ∙ get_end scope.values (ty.Scalar Index)

    inner : AreLines form (loop_of room) (next place) start (inside place) lines
    inner =
        lines_again form (loop_of room) (next place) lines start (visible ++ next place ∷ []) (inside place) start_fits
        (small_before (after_lines lines (inside place)) behind (before_passed (after_lines lines (inside place))) small) start_role start_counts (among_end visible (next place)) sound

    abbrev after : Scope
    after = closed outer inner.after

    region_again : region_with (operation_with (loop_of room)) Dimension outer body ≡ step (loop_region lines place) after
    unfolding region_with loop_region
    region_again =
        ap (λ (b : Body-F Body Node). walk.next (in_order (operation_with (loop_of room)) [] (with_arguments outer Dimension b.args) b.nodes)
        (λ s. step (region_of (argument_values (length outer.values) b.args) s.given) (closed outer s.scope))) body_out
        ∙ ap (λ (o : Outcome (Step (List Op))). walk.next o (λ s. step (region_of (argument_values (length outer.values) (arg ∷ [])) s.given) (closed outer s.scope))) (inner.gives [])
        ∙ ap (λ (l : List Ty). step (region_of (value (length l) ∷ []) (line_ops (next place) lines (inside place))) after) h.values

    -- ---- the operation
    abbrev use_of : ℤ → MapUse
    use_of z = record { map = bound_map z; operands = [] }

    lower_used : normal_of (lower_map loop_node) (take (arity_of (lower_map loop_node)) []) ≡ use_of lower
    lower_used = ap (λ (m : Option MapText). normal_of m (take (arity_of m) [])) said.lower_there ∙ const_normal lower

    upper_used : normal_of (upper_map loop_node) (drop (arity_of (lower_map loop_node)) []) ≡ use_of upper
    upper_used =
        ap (λ (m : Option MapText). normal_of (upper_map loop_node) (drop (arity_of m) [])) said.lower_there
        ∙ ap (λ (m : Option MapText). normal_of m []) said.upper_there
        ∙ const_normal upper

    loop_again : (is_last : Bool) → operation_with (loop_of (suc room)) is_last scope loop_node ≡ step (step_op (counted lower upper lines) place) after
    unfolding step_node node out-Node roll-Node denote.Hole.Carrier.out denote.Hole.Carrier.roll operation_with known_with loop_of loop_with op op_of step_op
    loop_again is_last =
        let number = length scope.owners in
        let used = operands_of outer loop_node in
        let within = only_region (region_with (operation_with (loop_of room)) Dimension) in
        let regions = loop_region lines place ∷ [] in
        let kind = AffineFor (bound_map lower) (bound_map upper) in
        all_checked number (loop_rules (are_new outer.names [] (out-Node loop_node).regions) true outer loop_node used)
        (walk.next (within outer (out-Node loop_node).regions) (λ s. step (loop_op loop_node used (s.given ∷ []) number) s.scope)) loop_hold
        ∙ ap (λ (rs : List Body). walk.next (within outer rs) (λ s. step (loop_op loop_node used (s.given ∷ []) number) s.scope)) regions_are
        ∙ ap (λ (o : Outcome (Step Region)). walk.next o (λ s. step (loop_op loop_node used (s.given ∷ []) number) s.scope)) region_again
        ∙ ap (λ (l : MapUse). step (loop_between l (normal_of (upper_map loop_node) (drop (arity_of (lower_map loop_node)) [])) loop_node regions number) after) lower_used
        ∙ ap (λ (u : MapUse). step (loop_between (use_of lower) u loop_node regions number) after) upper_used
        ∙ ap (λ by. step (op_of number (kind by) [] [] regions (marks_of Loop loop_node)) after) said.step_is
        ∙ ap (λ m. step (op_of number (kind 1) [] [] regions m) after) said.marks
        ∙ ap (λ n. step (op_of n (kind 1) [] [] regions (loop_mark place.loops)) after) (counted_here scope visible place h)

    -- ---- the scope behind it
    names_are : take (length scope.names) inner.after.names ≡ scope.names
    names_are =
        ap (take (length scope.names)) (inner.longer ∙ ap (λ ns. ns ++ inner.more) (names_with scope visible place h arg.name fresh)
        ∙ append_assoc scope.names (binds arg.name (value (next place)) ∷ []) inner.more)
        ∙ take-append_seam scope.names (binds arg.name (value (next place)) ∷ inner.more)

    loop_fits : Fits after visible behind
    loop_fits =
        let b = before_end lines place in
        let f = inner.fits in
        record {
          owners = f.owners;
          values = f.values;
          roles = f.roles;
          named = f.named;
          old =
              subst (λ (l : List Binding). AreOld behind.arguments behind.operations l) (sym names_are)
              (old_more place.arguments place.operations behind.arguments behind.operations b.arguments b.operations scope.names h.old);
          each =
              subst (λ (l : List Binding). AreNamed visible (length behind.types) behind.names l) (sym names_are)
              (named_behind visible scope.names place behind b h.named h.each);
        }

-- ---- operations of the function
pub record IsStepped (form : Form) (room : ℕ) (scope : Scope) (visible : List ℕ) (place : Place) (one : programs.Step) : Type 0 where
  pub after : Scope
  pub gives : (is_last : Bool) → operation_with (loop_of (suc room)) is_last scope (step_node form one place) ≡ step (step_op one place) after
  pub fits : Fits after (visible_behind one place visible) (after_step one place)

step_again : (form : Form) (room : ℕ) (one : programs.Step) (scope : Scope) (visible : List ℕ) (place : Place) → Fits scope visible place → IsSmall (after_step one place)
    → IsSoundStep visible place one → IsStepped form room scope visible place one
unfolding step_node step_op after_step IsSoundStep
step_again form room (single pattern) scope visible place h small sound =
    let here = small_before place (after_step (single pattern) place) (before_step (single pattern) place) small in
    let fresh = operation_new scope visible place h here.arguments here.operations in
    record {
      after = defined (numbered scope) (operation_name place.operations) element Plain;
      gives = λ is_last. constant_again form (loop_of (suc room)) scope visible place h here is_last pattern sound;
      fits = fits_result scope visible place h element Plain fresh;
    }
step_again form room (counted lower upper lines) scope visible place h small sound = record {
  after = after form place lower upper lines room scope visible h small sound.0 sound.1 sound.2;
  gives = loop_again form place lower upper lines room scope visible h small sound.0 sound.1 sound.2;
  fits = loop_fits form place lower upper lines room scope visible h small sound.0 sound.1 sound.2;
}

-- the nodes of steps, with their end, give the operations of steps
pub record AreSteps (form : Form) (room : ℕ) (scope : Scope) (place : Place) (steps : List programs.Step) : Type 0 where
  pub after : Scope
  pub seen : List ℕ
  pub gives : (done : List Op) → in_order (operation_with (loop_of (suc room))) done scope (step_nodes form steps place) ≡ step (done ++ step_ops steps place) after
  pub fits : Fits after seen (passed (after_steps steps place))

pub steps_again : (form : Form) (room : ℕ) (steps : List programs.Step) (scope : Scope) (visible : List ℕ) (place : Place)
    → Fits scope visible place → IsSmall (after_steps steps place) → AreSoundSteps visible place steps → AreSteps form room scope place steps
unfolding after_steps step_nodes step_ops AreSoundSteps
steps_again form room [] scope visible place h small sound = record {
  after = numbered scope;
  seen = visible;
  gives = λ done. last_in_order (operation_with (loop_of (suc room))) done scope (numbered scope) (end_node (codes "func.return") place)
      (op place.number FuncReturn [] [] [] no_marks) (return_again (loop_of (suc room)) scope visible place h);
  fits = fits_passed scope visible place h;
}
steps_again form room (one ∷ steps) scope visible place h small sound =
    let small_here = small_before (after_step one place) (after_steps steps (after_step one place)) (before_steps steps (after_step one place)) small in
    let first = step_again form room one scope visible place h small_here sound.0 in
    let rest = steps_again form room steps first.after (visible_behind one place visible) (after_step one place) first.fits small sound.1 in
    record {
      after = rest.after;
      seen = rest.seen;
      gives = λ done. first_in_order (operation_with (loop_of (suc room))) done (step_ops steps (after_step one place)) scope first.after rest.after (step_node form one place)
          (step_nodes form steps (after_step one place)) (step_op one place) first.gives rest.gives;
      fits = rest.fits;
    }

some_steps : (form : Form) (steps : List programs.Step) (place : Place) → IsMore (step_nodes form steps place)
unfolding step_nodes
some_steps form [] place = record { first = end_node (codes "func.return") place; rest = []; is = refl }
some_steps form (one ∷ steps) place = record { first = step_node form one place; rest = step_nodes form steps (after_step one place); is = refl }

returns : (place : Place) → ends_as (codes "func.return") (end_node (codes "func.return") place) ≡ true
unfolding end_node written.node out-Node roll-Node denote.Hole.Carrier.out denote.Hole.Carrier.roll
returns place = refl

pub last_step : (form : Form) (steps : List programs.Step) (place : Place) → is_last (ends_as (codes "func.return")) (step_nodes form steps place) ≡ true
unfolding step_nodes
last_step form [] place = returns place
last_step form (one ∷ steps) place =
    last_behind (ends_as (codes "func.return")) (step_node form one place) (step_nodes form steps (after_step one place))
    (some_steps form steps (after_step one place)) (last_step form steps (after_step one place))
