-- Functions and modules, from what their parts give.
use Rattle.std.specs.Prelude.{◌==◌, codes}
use Rattle.std.proofs.Common.{◌≡◌, ◌∙◌, ℕ, Bool, List, [], ◌∷◌, ◌++◌, Option, Some, None, length, ap, sym, subst}
use Rattle.av_tree.specs.declared.node.Node.{Node, out-Node}
use Rattle.av_tree.specs.declared.node.Body.{Body}
use Rattle.av_tree.specs.declared.node.Tree.{Tree}
use Rattle.av_verify.specs.declared.module.Mode.{Mode}
use Rattle.av_verify.specs.declared.refusal.Code.{Code}
use Rattle.av_verify.specs.declared.refusal.Code.TheVariants as code
use Rattle.av_verify.specs.declared.refusal.Rule.{Rule}
use Rattle.av_verify.specs.declared.rows.Row.TheVariants.{Function}
use Rattle.av_verify.specs.declared.refusal.VerifyRefusal.{VerifyRefusal}
use Rattle.av_verify.specs.declared.scope.Role.TheVariants.{Plain}
use Rattle.av_verify.specs.declared.scope.Scope.{Scope}
use Rattle.av_verify.specs.Codes.{Refuses, asks, first_failing}
use Rattle.av_verify.specs.Elaboration.{Outcome, gives, next, checked, step, IsRefused, only_region, region_with, loop_of, operation_with, function_of, module_of, elaborated}
use Rattle.av_verify.specs.Entries.{entry_of, has_needed}
use Rattle.av_verify.specs.FirstPath.{gives_nothing}
use Rattle.av_verify.specs.Loops.{are_new, end_with}
use Rattle.av_verify.specs.Results.{has_no_result}
use Rattle.av_verify.specs.Rows.{row_of}
use Rattle.av_verify.specs.Modules.{are_within_limits, has_function_entries, has_function_types, is_function, func_of, function_rules, module_rules, most_regions, only_function}
use Rattle.av_verify.specs.Scopes.{first_scope}
use Rattle.av_verify.proofs.Outcomes.{refuses, refused_next}

-- ---- outcomes
module _ {A B : Type 0} (number : ℕ) (failing : Option Code) (inside : Outcome A) (follows : A → Outcome B) where
  pub refused_inside : (refusal : VerifyRefusal) → failing ≡ None → IsRefused inside refusal → IsRefused (checked number failing (next inside follows)) refusal
  refused_inside refusal none h =
      subst (λ f. IsRefused (checked number f (next inside follows)) refusal) (sym none) (refused_next inside follows refusal h)

  pub given_inside : (a : A) → failing ≡ None → inside ≡ gives a → checked number failing (next inside follows) ≡ follows a
  given_inside a none h = ap (λ f. checked number f (next inside follows)) none ∙ ap (λ o. next o follows) h

-- ---- functions
module _ (room : ℕ) (scope : Scope) (node : Node) (number : ℕ) (owners : List ℕ) (new : Bool) (bodies : List Body) where
  pub function_is : number ≡ length scope.owners → owners ≡ scope.owners ++ 0 ∷ [] → new ≡ are_new scope.names [] (out-Node node).regions → bodies ≡ (out-Node node).regions
      → function_of room scope node
      ≡ checked number (first_failing (function_rules new node))
      (next (only_region (region_with (operation_with (loop_of room)) Plain) (record scope { owners = owners }) bodies)
      (λ s. step (func_of node number s.scope.values s.given) s.scope))
  unfolding function_of
  function_is counted owned fresh within =
      ap (λ n. checked n (first_failing (function_rules (are_new scope.names [] (out-Node node).regions) node))
      (next (only_region (region_with (operation_with (loop_of room)) Plain) (record scope { owners = scope.owners ++ 0 ∷ [] }) (out-Node node).regions)
      (λ s. step (func_of node n s.scope.values s.given) s.scope))) (sym counted)
      ∙ ap (λ os. checked number (first_failing (function_rules (are_new scope.names [] (out-Node node).regions) node))
      (next (only_region (region_with (operation_with (loop_of room)) Plain) (record scope { owners = os }) (out-Node node).regions)
      (λ s. step (func_of node number s.scope.values s.given) s.scope))) (sym owned)
      ∙ ap (λ b. checked number (first_failing (function_rules b node))
      (next (only_region (region_with (operation_with (loop_of room)) Plain) (record scope { owners = owners }) (out-Node node).regions)
      (λ s. step (func_of node number s.scope.values s.given) s.scope))) (sym fresh)
      ∙ ap (λ bs. checked number (first_failing (function_rules new node))
      (next (only_region (region_with (operation_with (loop_of room)) Plain) (record scope { owners = owners }) bs)
      (λ s. step (func_of node number s.scope.values s.given) s.scope))) (sym within)

-- the rules that are asked of a function, one by one
pub rules_are : (new : Bool) (node : Node) (r1 r2 r3 r4 r5 r6 r7 r8 r9 r10 r11 : Rule)
    → r1 ≡ asks code.Name (is_function (row_of (out-Node node).name))
    → r2 ≡ asks code.Operands (length (out-Node node).operands == 0)
    → r3 ≡ asks code.Results (has_no_result node)
    → r4 ≡ asks code.New (new)
    → r5 ≡ asks code.Types (has_function_types node)
    → r6 ≡ asks code.Needed (has_needed Function node)
    → r7 ≡ asks code.Property (has_function_entries node)
    → r8 ≡ asks code.Terminator (end_with (codes "func.return") (out-Node node).regions)
    → r9 ≡ asks code.Regions (length (out-Node node).regions == 1)
    → r10 ≡ asks code.Limit (are_within_limits node)
    → r11 ≡ asks code.Place (gives_nothing (entry_of (codes "function_type") node))
    → r1 ∷ r2 ∷ r3 ∷ r4 ∷ r5 ∷ r6 ∷ r7 ∷ r8 ∷ r9 ∷ r10 ∷ r11 ∷ [] ≡ function_rules new node
rules_are new node r1 r2 r3 r4 r5 r6 r7 r8 r9 r10 r11 h1 h2 h3 h4 h5 h6 h7 h8 h9 h10 h11 =
    ap (λ r. r ∷ r2 ∷ r3 ∷ r4 ∷ r5 ∷ r6 ∷ r7 ∷ r8 ∷ r9 ∷ r10 ∷ r11 ∷ []) h1
    ∙ ap (λ r. asks code.Name (is_function (row_of (out-Node node).name)) ∷ r ∷ r3 ∷ r4 ∷ r5 ∷ r6 ∷ r7 ∷ r8 ∷ r9 ∷ r10 ∷ r11 ∷ []) h2
    ∙ ap (λ r. asks code.Name (is_function (row_of (out-Node node).name)) ∷ asks code.Operands (length (out-Node node).operands == 0) ∷ r ∷ r4 ∷ r5 ∷ r6 ∷ r7 ∷ r8 ∷ r9 ∷ r10 ∷ r11 ∷ []) h3
    ∙ ap (λ r. asks code.Name (is_function (row_of (out-Node node).name)) ∷ asks code.Operands (length (out-Node node).operands == 0) ∷ asks code.Results (has_no_result node) ∷ r ∷ r5 ∷ r6 ∷ r7 ∷ r8 ∷ r9 ∷ r10 ∷ r11 ∷ []) h4
    ∙ ap (λ r. asks code.Name (is_function (row_of (out-Node node).name)) ∷ asks code.Operands (length (out-Node node).operands == 0) ∷ asks code.Results (has_no_result node) ∷ asks code.New (new) ∷ r ∷ r6 ∷ r7 ∷ r8 ∷ r9 ∷ r10 ∷ r11 ∷ []) h5
    ∙ ap (λ r. asks code.Name (is_function (row_of (out-Node node).name)) ∷ asks code.Operands (length (out-Node node).operands == 0) ∷ asks code.Results (has_no_result node) ∷ asks code.New (new) ∷ asks code.Types (has_function_types node) ∷ r ∷ r7 ∷ r8 ∷ r9 ∷ r10 ∷ r11 ∷ []) h6
    ∙ ap (λ r. asks code.Name (is_function (row_of (out-Node node).name)) ∷ asks code.Operands (length (out-Node node).operands == 0) ∷ asks code.Results (has_no_result node) ∷ asks code.New (new) ∷ asks code.Types (has_function_types node) ∷ asks code.Needed (has_needed Function node) ∷ r ∷ r8 ∷ r9 ∷ r10 ∷ r11 ∷ []) h7
    ∙ ap (λ r. asks code.Name (is_function (row_of (out-Node node).name)) ∷ asks code.Operands (length (out-Node node).operands == 0) ∷ asks code.Results (has_no_result node) ∷ asks code.New (new) ∷ asks code.Types (has_function_types node) ∷ asks code.Needed (has_needed Function node) ∷ asks code.Property (has_function_entries node) ∷ r ∷ r9 ∷ r10 ∷ r11 ∷ []) h8
    ∙ ap (λ r. asks code.Name (is_function (row_of (out-Node node).name)) ∷ asks code.Operands (length (out-Node node).operands == 0) ∷ asks code.Results (has_no_result node) ∷ asks code.New (new) ∷ asks code.Types (has_function_types node) ∷ asks code.Needed (has_needed Function node) ∷ asks code.Property (has_function_entries node) ∷ asks code.Terminator (end_with (codes "func.return") (out-Node node).regions) ∷ r ∷ r10 ∷ r11 ∷ []) h9
    ∙ ap (λ r. asks code.Name (is_function (row_of (out-Node node).name)) ∷ asks code.Operands (length (out-Node node).operands == 0) ∷ asks code.Results (has_no_result node) ∷ asks code.New (new) ∷ asks code.Types (has_function_types node) ∷ asks code.Needed (has_needed Function node) ∷ asks code.Property (has_function_entries node) ∷ asks code.Terminator (end_with (codes "func.return") (out-Node node).regions) ∷ asks code.Regions (length (out-Node node).regions == 1) ∷ r ∷ r11 ∷ []) h10
    ∙ ap (λ r. asks code.Name (is_function (row_of (out-Node node).name)) ∷ asks code.Operands (length (out-Node node).operands == 0) ∷ asks code.Results (has_no_result node) ∷ asks code.New (new) ∷ asks code.Types (has_function_types node) ∷ asks code.Needed (has_needed Function node) ∷ asks code.Property (has_function_entries node) ∷ asks code.Terminator (end_with (codes "func.return") (out-Node node).regions) ∷ asks code.Regions (length (out-Node node).regions == 1) ∷ asks code.Limit (are_within_limits node) ∷ r ∷ []) h11

-- ---- modules
module _ (mode : Mode) (node : Node) (room : ℕ) (first : Scope) (owners : List ℕ) where
  pub module_is : room ≡ most_regions mode → first ≡ first_scope → owners ≡ first.owners ++ 0 ∷ []
      → module_of mode (Some node)
      ≡ next (function_of room (record first { owners = owners }) node) (λ s. gives (record { funcs = s.given ∷ []; owners = s.scope.owners }))
  unfolding module_of
  module_is roomy empty owned =
      ap (λ r. next (function_of r (record first_scope { owners = first_scope.owners ++ 0 ∷ [] }) node) (λ s. gives (record { funcs = s.given ∷ []; owners = s.scope.owners }))) (sym roomy)
      ∙ ap (λ f. next (function_of room (record f { owners = f.owners ++ 0 ∷ [] }) node) (λ s. gives (record { funcs = s.given ∷ []; owners = s.scope.owners }))) (sym empty)
      ∙ ap (λ os. next (function_of room (record first { owners = os }) node) (λ s. gives (record { funcs = s.given ∷ []; owners = s.scope.owners }))) (sym owned)

pub tree_refused : (tree : Tree) (mode : Mode) (refusal : VerifyRefusal) → Refuses 0 (first_failing (module_rules tree.root mode)) refusal
    → IsRefused (elaborated tree mode) refusal
unfolding elaborated
tree_refused tree mode refusal h = refuses 0 (first_failing (module_rules tree.root mode)) refusal (module_of mode (only_function tree.root)) h

pub tree_passed : (tree : Tree) (mode : Mode) (found : Option Node) → first_failing (module_rules tree.root mode) ≡ None → found ≡ only_function tree.root
    → elaborated tree mode ≡ module_of mode found
unfolding elaborated
tree_passed tree mode found none is =
    ap (λ f. checked 0 f (module_of mode (only_function tree.root))) none ∙ ap (module_of mode) (sym is)
