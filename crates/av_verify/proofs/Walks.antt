-- One step of the walk, from what its parts give.
use Rattle.std.proofs.Common.{◌≡◌, ◌∙◌, ℕ, suc, ◌+◌, arith, Bool, true, List, [], ◌∷◌, ◌++◌, Some, None, length, take, ap, sym, subst}
use Rattle.av_ir.specs.declared.module.Op.{Op}
use Rattle.av_ir.specs.declared.module.ValueId.{ValueId}
use Rattle.av_ir.specs.declared.module.Region.{Region}
use Rattle.av_tree.specs.declared.node.Node.{Node, out-Node}
use Rattle.av_tree.specs.declared.node.Body.{Body, out-Body}
use Rattle.av_verify.specs.declared.refusal.VerifyRefusal.{VerifyRefusal}
use Rattle.av_verify.specs.declared.rows.Row.{Row}
use Rattle.av_verify.specs.declared.scope.Role.{Role}
use Rattle.av_verify.specs.declared.scope.Role.TheVariants.{Dimension}
use Rattle.av_verify.specs.declared.scope.Scope.{Scope}
use Rattle.av_verify.specs.Arith.{operands_of}
use Rattle.av_verify.specs.Codes.{Refuses, first_failing}
use Rattle.av_verify.specs.Elaboration.{Outcome, Step, fails, next, checked, step, IsRefused, argument_values, with_arguments, in_order, only_region, region_of, region_with, loop_with, loop_of, by_row, known_with, operation_with}
use Rattle.av_verify.specs.Loops.{are_new, loop_rules, loop_op}
use Rattle.av_verify.specs.Rows.{row_of}
use Rattle.av_verify.proofs.Outcomes.{refuses, refused_next}

-- ---- loops
module _ (has_room : Bool) (inside : Scope → List Body → Outcome (Step Region)) (number : ℕ) (scope : Scope) (node : Node) (values : List ValueId) (new : Bool) where
  after_rules : values ≡ operands_of scope node → new ≡ are_new scope.names [] (out-Node node).regions
      → loop_with has_room inside number scope node
      ≡ checked number (first_failing (loop_rules new has_room scope node values))
      (next (inside scope (out-Node node).regions) (λ s. step (loop_op node values (s.given ∷ []) number) s.scope))
  unfolding loop_with
  after_rules named fresh =
      ap (λ n. checked number (first_failing (loop_rules n has_room scope node (operands_of scope node)))
      (next (inside scope (out-Node node).regions) (λ s. step (loop_op node (operands_of scope node) (s.given ∷ []) number) s.scope))) (sym fresh)
      ∙ ap (λ v. checked number (first_failing (loop_rules new has_room scope node v))
      (next (inside scope (out-Node node).regions) (λ s. step (loop_op node v (s.given ∷ []) number) s.scope))) (sym named)

  pub loop_refused : (refusal : VerifyRefusal) → values ≡ operands_of scope node → new ≡ are_new scope.names [] (out-Node node).regions
      → Refuses number (first_failing (loop_rules new has_room scope node values)) refusal
      → IsRefused (loop_with has_room inside number scope node) refusal
  loop_refused refusal named fresh h =
      subst (λ o. IsRefused o refusal) (sym (after_rules named fresh))
      (refuses number (first_failing (loop_rules new has_room scope node values)) refusal
      (next (inside scope (out-Node node).regions) (λ s. step (loop_op node values (s.given ∷ []) number) s.scope)) h)

  pub loop_passed : values ≡ operands_of scope node → new ≡ are_new scope.names [] (out-Node node).regions
      → first_failing (loop_rules new has_room scope node values) ≡ None
      → loop_with has_room inside number scope node
      ≡ next (inside scope (out-Node node).regions) (λ s. step (loop_op node values (s.given ∷ []) number) s.scope)
  loop_passed named fresh h =
      after_rules named fresh
      ∙ ap (λ f. checked number f (next (inside scope (out-Node node).regions) (λ s. step (loop_op node values (s.given ∷ []) number) s.scope))) h

  pub loop_refused_inside : (refusal : VerifyRefusal) (bodies : List Body) → bodies ≡ (out-Node node).regions → values ≡ operands_of scope node → new ≡ are_new scope.names [] (out-Node node).regions
      → first_failing (loop_rules new has_room scope node values) ≡ None
      → IsRefused (inside scope bodies) refusal
      → IsRefused (loop_with has_room inside number scope node) refusal
  loop_refused_inside refusal bodies within named fresh none h =
      subst (λ o. IsRefused o refusal) (sym (loop_passed named fresh none))
      (refused_next (inside scope (out-Node node).regions) (λ s. step (loop_op node values (s.given ∷ []) number) s.scope) refusal
      (subst (λ b. IsRefused (inside scope b) refusal) within h))

  pub loop_given : (region : Region) (op : Op) (after : Scope) (bodies : List Body) → bodies ≡ (out-Node node).regions → values ≡ operands_of scope node → new ≡ are_new scope.names [] (out-Node node).regions
      → first_failing (loop_rules new has_room scope node values) ≡ None
      → inside scope bodies ≡ step region after → op ≡ loop_op node values (region ∷ []) number
      → loop_with has_room inside number scope node ≡ step op after
  loop_given region op after bodies within named fresh none h is =
      loop_passed named fresh none
      ∙ ap (λ o. next o (λ s. step (loop_op node values (s.given ∷ []) number) s.scope)) (ap (inside scope) (sym within) ∙ h)
      ∙ ap (λ o. step o after) (sym is)

-- a region may be opened
pub loop_more : (room number : ℕ) (scope : Scope) (node : Node)
    → loop_of (room + 1) number scope node ≡ loop_with true (only_region (region_with (operation_with (loop_of room)) Dimension)) number scope node
unfolding loop_of
loop_more room number scope node =
    let e : room + 1 ≡ suc room = omega arith in ap (λ n. loop_of n number scope node) e

-- ---- operations
module _ (loop : ℕ → Scope → Node → Outcome (Step Op)) (is_last : Bool) (scope : Scope) (node : Node) (number : ℕ) (owners : List ℕ) where
  pub operation_row : (row : Row) → row_of (out-Node node).name ≡ Some row → number ≡ length scope.owners → owners ≡ scope.owners ++ 0 ∷ []
      → operation_with loop is_last scope node ≡ known_with loop row number is_last (record scope { owners = owners }) node
  unfolding operation_with
  operation_row row is counted owned =
      ap (λ r. by_row loop r (length scope.owners) is_last (record scope { owners = scope.owners ++ 0 ∷ [] }) node) is
      ∙ ap (λ n. known_with loop row n is_last (record scope { owners = scope.owners ++ 0 ∷ [] }) node) (sym counted)
      ∙ ap (λ os. known_with loop row number is_last (record scope { owners = os }) node) (sym owned)

  pub operation_unknown : row_of (out-Node node).name ≡ None → number ≡ length scope.owners
      → operation_with loop is_last scope node ≡ fails number 1
  unfolding operation_with
  operation_unknown is counted =
      ap (λ r. by_row loop r (length scope.owners) is_last (record scope { owners = scope.owners ++ 0 ∷ [] }) node) is
      ∙ ap (λ n. fails n 1) (sym counted)

-- ---- regions
module _ (operation : Bool → Scope → Node → Outcome (Step Op)) (role : Role) (scope inner : Scope) (body : Body) where
  in_region : inner ≡ with_arguments scope role (out-Body body).args
      → region_with operation role scope body
      ≡ next (in_order operation [] inner (out-Body body).nodes)
      (λ s. step (region_of (argument_values (length scope.values) (out-Body body).args) s.given) (record s.scope { names = take (length scope.names) s.scope.names }))
  unfolding region_with
  in_region is =
      ap (λ i. next (in_order operation [] i (out-Body body).nodes)
      (λ s. step (region_of (argument_values (length scope.values) (out-Body body).args) s.given) (record s.scope { names = take (length scope.names) s.scope.names }))) (sym is)

  pub region_refused : (refusal : VerifyRefusal) → inner ≡ with_arguments scope role (out-Body body).args
      → IsRefused (in_order operation [] inner (out-Body body).nodes) refusal
      → IsRefused (region_with operation role scope body) refusal
  region_refused refusal is h =
      subst (λ o. IsRefused o refusal) (sym (in_region is))
      (refused_next (in_order operation [] inner (out-Body body).nodes)
      (λ s. step (region_of (argument_values (length scope.values) (out-Body body).args) s.given) (record s.scope { names = take (length scope.names) s.scope.names })) refusal h)

  pub region_given : (args : List ValueId) (ops : List Op) (region : Region) (after closed : Scope)
      → inner ≡ with_arguments scope role (out-Body body).args
      → args ≡ argument_values (length scope.values) (out-Body body).args
      → in_order operation [] inner (out-Body body).nodes ≡ step ops after
      → region ≡ region_of args ops
      → closed ≡ record after { names = take (length scope.names) after.names }
      → region_with operation role scope body ≡ step region closed
  region_given args ops region after closed is valued h made left =
      in_region is
      ∙ ap (λ o. next o (λ s. step (region_of (argument_values (length scope.values) (out-Body body).args) s.given) (record s.scope { names = take (length scope.names) s.scope.names }))) h
      ∙ ap (λ a. step (region_of a ops) (record after { names = take (length scope.names) after.names })) (sym valued)
      ∙ ap (λ r. step r (record after { names = take (length scope.names) after.names })) (sym made)
      ∙ ap (λ s. step region s) (sym left)
