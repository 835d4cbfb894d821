-- The walk over operations without places.
use Rattle.std.proofs.Common.{◌≡◌, ◌∙◌, ℕ, zero, suc, Bool, true, false, List, [], ◌∷◌, ◌++◌, length, map, refl, ap}
use Rattle.std.proofs.lemmas.List.{length-map}
use Rattle.std.specs.Prelude.{◌==◌, ◌*◌, nat_le, if◌then◌else◌, Option, Some, None, option_map, codes}
use Rattle.std.specs.Str.{bytes_eq}
use Rattle.av_bits.specs.declared.types.BinOp.{BinOp}
use Rattle.av_bits.specs.declared.types.BinOp.TheVariants.{Addi}
use Rattle.av_shapes.specs.Places.{lanes}
use Rattle.av_ir.specs.declared.module.Op.{Op}
use Rattle.av_ir.specs.declared.module.Region.{Region}
use Rattle.av_tree.specs.declared.node.Node.{Node, Node-F, out-Node}
use Rattle.av_tree.specs.declared.node.Body.{Body, out-Body}
use Rattle.av_tree.specs.declared.node.Tree.{Tree}
use Rattle.av_read_laws.specs.Places.{unplaced, unplaced_node, unplaced_body}
use Rattle.av_read_laws.proofs.Nodes.{out-unplaced}
use Rattle.av_verify.specs.declared.module.Mode.{Mode}
use Rattle.av_verify.specs.declared.module.Mode.TheVariants as mode
use Rattle.av_verify.specs.Parts.{Scope, Role, Dimension, Plain, Row, Return, Constant, Binary, Loop, Yield, Load, Store}
use Rattle.av_verify.specs.Codes.{first_failing}
use Rattle.av_verify.specs.Loops.{are_new}
use Rattle.av_verify.specs.Modules.{func_of, function_rules, is_within_size, module_rules, most_regions, only_function, only_in}
use Rattle.av_verify.specs.Rows.{row_of}
use Rattle.av_verify.specs.Scopes.{first_scope}
use Rattle.av_verify.specs.Elaboration.{Outcome, gives, fails, next, Step, in_order, region_with, only_region, argument_values, checked, closed, region_of, step, numbered, with_arguments, loop_with, known_with, by_row, operation_with, loop_of, function_of, module_of, elaborated}
use Rattle.av_output_laws.proofs.PlacesOfNodes.{out-body, new-same, ends-same, indices-same, limits-same, types-same, variable-same, plain-same, only-in-same, is-some-map}
use Rattle.av_output_laws.proofs.PlacesAndCounts.{count-same}

-- ---- outcomes
next-same : {A B : Type 0} (outcome : Outcome A) (f g : A → Outcome B) → ((a : A) → f a ≡ g a) → next outcome f ≡ next outcome g
next-same (gives a) f g same = same a
next-same (fails k c) f g same = refl

either : {A : Type 0} (P : A → Type 0) (b : Bool) (x y : A) → P x → P y → P (if b then x else y)
either P true x y px py = px
either P false x y px py = py

-- an operation is elaborated as without its places
abbrev Forgets : (Bool → Scope → Node → Outcome (Step Op)) → Type 0
Forgets operation = (is_last : Bool) (scope : Scope) (node : Node) → operation is_last scope (unplaced_node node) ≡ operation is_last scope node

abbrev ForgetsNumbered : (ℕ → Scope → Node → Outcome (Step Op)) → Type 0
ForgetsNumbered loop = (number : ℕ) (scope : Scope) (node : Node) → loop number scope (unplaced_node node) ≡ loop number scope node

abbrev ForgetsWithin : (Scope → List Body → Outcome (Step Region)) → Type 0
ForgetsWithin inside = (scope : Scope) (bodies : List Body) → inside scope (map unplaced_body bodies) ≡ inside scope bodies

-- ---- regions
order-same : (operation : Bool → Scope → Node → Outcome (Step Op)) → Forgets operation → (done : List Op) (scope : Scope) (nodes : List Node)
    → in_order operation done scope (map unplaced_node nodes) ≡ in_order operation done scope nodes
order-same operation same done scope [] = refl
order-same operation same done scope (node ∷ nodes) =
    ap (λ n. next (operation (n == 1) scope (unplaced_node node)) (λ s. in_order operation (done ++ s.given ∷ []) s.scope (map unplaced_node nodes)))
    (length-map (node ∷ nodes) unplaced_node)
    ∙ ap (λ o. next o (λ s. in_order operation (done ++ s.given ∷ []) s.scope (map unplaced_node nodes))) (same (length (node ∷ nodes) == 1) scope node)
    ∙ next-same (operation (length (node ∷ nodes) == 1) scope node) _ _ (λ s. order-same operation same (done ++ s.given ∷ []) s.scope nodes)

region-same : (operation : Bool → Scope → Node → Outcome (Step Op)) → Forgets operation → (role : Role) (scope : Scope) (body : Body)
    → region_with operation role scope (unplaced_body body) ≡ region_with operation role scope body
unfolding region_with
region-same operation same role scope body =
    simp out-body
    (ap
    (λ o. next o (λ s. step (region_of (argument_values (length scope.values) (out-Body body).args) s.given) (closed scope s.scope)))
    (order-same operation same [] (with_arguments scope role (out-Body body).args) (out-Body body).nodes))

only-region-same : (region : Scope → Body → Outcome (Step Region)) → ((scope : Scope) (body : Body) → region scope (unplaced_body body) ≡ region scope body)
    → ForgetsWithin (only_region region)
only-region-same region same scope [] = refl
only-region-same region same scope (body ∷ []) = same scope body
only-region-same region same scope (body ∷ other ∷ bodies) = refl

-- ---- operations
loop-with-same : (has_room : Bool) (inside : Scope → List Body → Outcome (Step Region)) → ForgetsWithin inside → ForgetsNumbered (loop_with has_room inside)
unfolding loop_with
loop-with-same has_room inside same number scope node =
    simp (out-unplaced, length-map, new-same, ends-same, indices-same, variable-same, same) refl

-- the rows from one on
abbrev from_store : List ℕ → Option Row
from_store name = if bytes_eq name (codes "affine.store") then Some Store else None

abbrev from_load : List ℕ → Option Row
from_load name = if bytes_eq name (codes "affine.load") then Some Load else from_store name

abbrev from_yield : List ℕ → Option Row
from_yield name = if bytes_eq name (codes "affine.yield") then Some Yield else from_load name

abbrev from_loop : List ℕ → Option Row
from_loop name = if bytes_eq name (codes "affine.for") then Some Loop else from_yield name

abbrev from_binary : List ℕ → Option Row
from_binary name = if bytes_eq name (codes "arith.addi") then Some (Binary Addi) else from_loop name

abbrev from_constant : List ℕ → Option Row
from_constant name = if bytes_eq name (codes "arith.constant") then Some Constant else from_binary name

abbrev from_return : List ℕ → Option Row
from_return name = if bytes_eq name (codes "func.return") then Some Return else from_constant name

abbrev from_function : List ℕ → Option Row
from_function name = if bytes_eq name (codes "func.func") then row_of (codes "func.func") else from_return name

-- the operation of a row forgets places
abbrev ForgetsAt : (ℕ → Scope → Node → Outcome (Step Op)) → Option Row → Type 0
ForgetsAt loop known = (number : ℕ) (is_last : Bool) (scope : Scope) (node : Node)
    → by_row loop known number is_last scope (unplaced_node node) ≡ by_row loop known number is_last scope node

module _ (loop : ℕ → Scope → Node → Outcome (Step Op)) (same : ForgetsNumbered loop) where
  constant-same : ForgetsAt loop (Some Constant)
  unfolding known_with
  constant-same number is_last scope node = simp (out-unplaced, length-map) refl

  binary-same : (op : BinOp) → ForgetsAt loop (Some (Binary op))
  unfolding known_with
  binary-same op number is_last scope node = simp (out-unplaced, length-map) refl

  load-same : ForgetsAt loop (Some Load)
  unfolding known_with
  load-same number is_last scope node = simp (out-unplaced, length-map) refl

  store-same : ForgetsAt loop (Some Store)
  unfolding known_with
  store-same number is_last scope node = simp (out-unplaced, length-map) refl

  return-same : ForgetsAt loop (Some Return)
  unfolding known_with
  return-same number is_last scope node = simp (out-unplaced, length-map) refl

  yield-same : ForgetsAt loop (Some Yield)
  unfolding known_with
  yield-same number is_last scope node = simp (out-unplaced, length-map) refl

  loop-row-same : ForgetsAt loop (Some Loop)
  unfolding known_with
  loop-row-same number is_last scope node = same number scope node

  row-same : (name : List ℕ) → ForgetsAt loop (row_of name)
  unfolding known_with
  row-same name =
      either (ForgetsAt loop) (bytes_eq name (codes "builtin.module")) (row_of (codes "builtin.module")) (from_function name) (λ number is_last scope node. refl)
      (either (ForgetsAt loop) (bytes_eq name (codes "func.func")) (row_of (codes "func.func")) (from_return name) (λ number is_last scope node. refl)
      (either (ForgetsAt loop) (bytes_eq name (codes "func.return")) (Some Return) (from_constant name) return-same
      (either (ForgetsAt loop) (bytes_eq name (codes "arith.constant")) (Some Constant) (from_binary name) constant-same
      (either (ForgetsAt loop) (bytes_eq name (codes "arith.addi")) (Some (Binary Addi)) (from_loop name) (binary-same Addi)
      (either (ForgetsAt loop) (bytes_eq name (codes "affine.for")) (Some Loop) (from_yield name) loop-row-same
      (either (ForgetsAt loop) (bytes_eq name (codes "affine.yield")) (Some Yield) (from_load name) yield-same
      (either (ForgetsAt loop) (bytes_eq name (codes "affine.load")) (Some Load) (from_store name) load-same
      (either (ForgetsAt loop) (bytes_eq name (codes "affine.store")) (Some Store) None store-same
      (λ number is_last scope node. refl)))))))))

  pub operation-same : Forgets (operation_with loop)
  unfolding operation_with
  operation-same is_last scope node =
      ap (λ (x : Node-F Body Node). by_row loop (row_of x.name) (length scope.owners) is_last (numbered scope) (unplaced_node node)) (out-unplaced node)
      ∙ row-same (out-Node node).name (length scope.owners) is_last (numbered scope) node

-- ---- loops, functions and modules
loop-same : (room : ℕ) → ForgetsNumbered (loop_of room)
unfolding loop_of
loop-same zero number scope node = loop-with-same false _ (λ inner bodies. refl) number scope node
loop-same (suc room) number scope node =
    loop-with-same true (only_region (region_with (operation_with (loop_of room)) Dimension))
    (only-region-same (region_with (operation_with (loop_of room)) Dimension)
    (region-same (operation_with (loop_of room)) (operation-same (loop_of room) (loop-same room)) Dimension))
    number scope node

-- a function around its regions
function-with-same : (inside : Scope → List Body → Outcome (Step Region)) → ForgetsWithin inside → (scope : Scope) (node : Node)
    → checked (length scope.owners) (first_failing (function_rules (are_new scope.names [] (out-Node (unplaced_node node)).regions) (unplaced_node node)))
    (next (inside (numbered scope) (out-Node (unplaced_node node)).regions) (λ s. step (func_of (unplaced_node node) (length scope.owners) s.scope.values s.given) s.scope))
    ≡ checked (length scope.owners) (first_failing (function_rules (are_new scope.names [] (out-Node node).regions) node))
    (next (inside (numbered scope) (out-Node node).regions) (λ s. step (func_of node (length scope.owners) s.scope.values s.given) s.scope))
function-with-same inside same scope node = simp (out-unplaced, length-map, new-same, ends-same, limits-same, types-same, same) refl

function-same : (room : ℕ) (scope : Scope) (node : Node) → function_of room scope (unplaced_node node) ≡ function_of room scope node
unfolding function_of
function-same room scope node =
    function-with-same (only_region (region_with (operation_with (loop_of room)) Plain))
    (only-region-same (region_with (operation_with (loop_of room)) Plain)
    (region-same (operation_with (loop_of room)) (operation-same (loop_of room) (loop-same room)) Plain))
    scope node

module-same : (mode : Mode) (function : Option Node) → module_of mode (option_map unplaced_node function) ≡ module_of mode function
unfolding module_of
module-same mode None = refl
module-same mode (Some node) = ap (λ o. next o (λ s. gives (record { funcs = s.given ∷ []; owners = s.scope.owners }))) (function-same (most_regions mode) (numbered first_scope) node)

size-same : (root : Node) (mode : Mode) → is_within_size (unplaced_node root) mode ≡ is_within_size root mode
size-same root (mode.Scalar shape) = ap (λ n. nat_le (n * lanes shape 1) 0x8_0000) (count-same root)
size-same root mode.Vector = ap (λ n. nat_le n 0x8_0000) (count-same root)
size-same root mode.Run = refl

rules-same : (root : Node) (mode : Mode) → module_rules (unplaced_node root) mode ≡ module_rules root mode
rules-same root mode = simp (out-unplaced, plain-same, only-in-same, is-some-map, size-same) refl

only-function-same : (root : Node) → only_function (unplaced_node root) ≡ option_map unplaced_node (only_function root)
only-function-same root = ap (λ (x : Node-F Body Node). only_in x.regions) (out-unplaced root) ∙ only-in-same (out-Node root).regions

pub places : (tree : Tree) (mode : Mode) → elaborated (unplaced tree) mode ≡ elaborated tree mode
unfolding elaborated
places tree mode =
    ap (λ rules. checked 0 (first_failing rules) (module_of mode (only_function (unplaced_node tree.root)))) (rules-same tree.root mode)
    ∙ ap (checked 0 (first_failing (module_rules tree.root mode))) (ap (module_of mode) (only-function-same tree.root) ∙ module-same mode (only_function tree.root))
