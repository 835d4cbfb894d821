-- The walk over operations: what each gives, or the first that fails.
use Rattle.std.specs.Prelude.{◌≡◌, ℕ, zero, suc, ◌+◌, ◌==◌, Bool, true, false, List, [], ◌∷◌, ◌++◌, length, take, Option, Some, None, unwrap_or, Result, MatchResult}
use Rattle.av_ir.specs.declared.ty.Elem.TheVariants.{Index}
use Rattle.av_ir.specs.declared.ty.Ty.TheVariants as ty
use Rattle.av_ir.specs.declared.module.ValueId.{ValueId}
use Rattle.av_ir.specs.declared.module.Module as ir
use Rattle.av_ir.specs.declared.module.Func.{Func}
use Rattle.av_ir.specs.declared.module.Op.{Op}
use Rattle.av_ir.specs.declared.module.Region.{Region, roll-Region}
use Rattle.av_tree.specs.declared.node.Node.{Node, out-Node}
use Rattle.av_tree.specs.declared.node.Body.{Body, out-Body}
use Rattle.av_tree.specs.declared.node.BodyArg.{BodyArg}
use Rattle.av_tree.specs.declared.node.Tree.{Tree}
use Rattle.av_verify.specs.declared.module.Mode.{Mode}
use Rattle.av_verify.specs.declared.refusal.Code.{Code}
use Rattle.av_verify.specs.declared.refusal.Code.TheVariants as code
use Rattle.av_verify.specs.declared.refusal.VerifyRefusal.{VerifyRefusal}
use Rattle.av_verify.specs.declared.refusal.VerifyRefusal.TheVariants.{Bad, NoMemory}
use Rattle.av_verify.specs.declared.rows.Row.{Row}
use Rattle.av_verify.specs.declared.rows.Row.TheVariants.{Module, Function, Return, Constant, Binary, Loop, Yield, Load, Store}
use Rattle.av_verify.specs.declared.scope.Role.{Role}
use Rattle.av_verify.specs.declared.scope.Role.TheVariants.{Plain, Dimension}
use Rattle.av_verify.specs.declared.scope.Scope.{Scope}
use Rattle.av_verify.specs.Accesses.{load_rules, load_op, loaded_elem, store_rules, store_op}
use Rattle.av_verify.specs.Arith.{operands_of, constant_rules, constant_op, constant_elem, binary_rules, binary_op, left_elem}
use Rattle.av_verify.specs.Codes.{first_failing, number_of_code}
use Rattle.av_verify.specs.Ends.{end_rules, end_op}
use Rattle.av_verify.specs.Loops.{are_new, loop_rules, loop_op}
use Rattle.av_verify.specs.Modules.{function_rules, func_of, module_rules, most_regions, only_function}
use Rattle.av_verify.specs.Results.{result_name}
use Rattle.av_verify.specs.Rows.{row_of}
use Rattle.av_verify.specs.Scopes.{defined, first_scope}
use Rattle.av_verify.specs.Types.{type_of}

-- ---- outcomes
-- something; or the number of the first operation that fails, and the number of its first code that fails
pub data Outcome (A : Type 0) : Type 0 where
  gives : A → Outcome A
  fails : ℕ → ℕ → Outcome A

-- what follows, where nothing fails
abbrev pub next : {A B : Type 0} → Outcome A → (A → Outcome B) → Outcome B
next (gives a) follows = follows a
next (fails k c) follows = fails k c

-- an operation fails by this code, if there is one
abbrev pub checked : {A : Type 0} → ℕ → Option Code → Outcome A → Outcome A
checked number None outcome = outcome
checked number (Some failing) outcome = fails number (number_of_code failing)

-- a refusal is of what failed, or memory lacks
abbrev pub IsRefused : {A : Type 0} → Outcome A → VerifyRefusal → Type 0
IsRefused outcome (Bad k c) = outcome ≡ fails k c
IsRefused outcome NoMemory = Unit {0}

-- a call ends as the outcome says, or memory lacks
abbrev pub Ends : {A : Type 0} → Outcome A → Result A VerifyRefusal → Type 0
Ends outcome result = MatchResult result (λ a. outcome ≡ gives a) (λ refusal. IsRefused outcome refusal)

-- what a step gives, and the scope after it
pub record Step (A : Type 0) : Type 0 where
  pub given : A
  pub scope : Scope

abbrev pub step : {A : Type 0} → A → Scope → Outcome (Step A)
step a scope = gives (record { given = a; scope = scope })

-- the same of a call that changes the scope
abbrev pub Elaborates : {A : Type 0} → Outcome (Step A) → Result A VerifyRefusal → Scope → Type 0
Elaborates outcome result scope = MatchResult result (λ a. outcome ≡ step a scope) (λ refusal. IsRefused outcome refusal)

-- ---- regions
-- one value for each argument, of its type
abbrev pub with_arguments : Scope → Role → List BodyArg → Scope
with_arguments scope role [] = scope
with_arguments scope role (arg ∷ args) =
    with_arguments (defined scope arg.name (unwrap_or (type_of arg.ty) (ty.Scalar Index)) role) role args

abbrev pub argument_values : ℕ → List BodyArg → List ValueId
argument_values n [] = []
argument_values n (arg ∷ args) = record { 0 = n } ∷ argument_values (n + 1) args

-- the operations of a region in order, after those that are done: each in the scope after the one before it, and the
-- last one, which alone is left, as such
abbrev pub in_order : (Bool → Scope → Node → Outcome (Step Op)) → List Op → Scope → List Node → Outcome (Step (List Op))
in_order operation done scope [] = step done scope
in_order operation done scope (node ∷ nodes) =
    next (operation (length (node ∷ nodes) == 1) scope node) (λ s. in_order operation (done ++ s.given ∷ []) s.scope nodes)

-- the names of a region are visible in it alone
abbrev pub closed : Scope → Scope → Scope
closed before after = record after { names = take (length before.names) after.names }

abbrev pub region_of : List ValueId → List Op → Region
region_of args ops = roll-Region (record { args = args; ops = ops })

-- the arguments, and the operations in order
unfoldable pub region_with : (Bool → Scope → Node → Outcome (Step Op)) → Role → Scope → Body → Outcome (Step Region)
region_with operation role scope body =
    next (in_order operation [] (with_arguments scope role (out-Body body).args) (out-Body body).nodes)
    (λ s. step (region_of (argument_values (length scope.values) (out-Body body).args) s.given) (closed scope s.scope))

-- the one region; nothing where there isn't one, which is refused
abbrev pub only_region : (Scope → Body → Outcome (Step Region)) → Scope → List Body → Outcome (Step Region)
only_region region scope (body ∷ []) = region scope body
only_region region scope _ = step (region_of [] []) scope

-- ---- operations
-- the next number is taken
abbrev pub numbered : Scope → Scope
numbered scope = record scope { owners = scope.owners ++ 0 ∷ [] }

-- a loop whose rules hold is around its region
unfoldable pub loop_with : Bool → (Scope → List Body → Outcome (Step Region)) → ℕ → Scope → Node → Outcome (Step Op)
loop_with has_room inside number scope node =
    checked number (first_failing (loop_rules (are_new scope.names [] (out-Node node).regions) has_room scope node (operands_of scope node)))
    (next (inside scope (out-Node node).regions)
    (λ s. step (loop_op node (operands_of scope node) (s.given ∷ []) number) s.scope))

-- the operation of a row
unfoldable pub known_with : (ℕ → Scope → Node → Outcome (Step Op)) → Row → ℕ → Bool → Scope → Node → Outcome (Step Op)
known_with loop Loop number is_last scope node = loop number scope node
known_with loop Constant number is_last scope node =
    checked number (first_failing (constant_rules scope node))
    (step (constant_op scope node number) (defined scope (result_name node) (ty.Scalar (constant_elem node)) Plain))
known_with loop (Binary op) number is_last scope node =
    checked number (first_failing (binary_rules op scope node))
    (step (binary_op op scope node number) (defined scope (result_name node) (ty.Scalar (left_elem scope node)) Plain))
known_with loop Load number is_last scope node =
    checked number (first_failing (load_rules scope node))
    (step (load_op scope node number) (defined scope (result_name node) (ty.Scalar (loaded_elem scope node)) Plain))
known_with loop Store number is_last scope node =
    checked number (first_failing (store_rules scope node)) (step (store_op scope node number) scope)
known_with loop Return number is_last scope node =
    checked number (first_failing (end_rules Return is_last scope node)) (step (end_op Return scope node number) scope)
known_with loop Yield number is_last scope node =
    checked number (first_failing (end_rules Yield is_last scope node)) (step (end_op Yield scope node number) scope)
known_with loop Module number is_last scope node = fails number (number_of_code code.Place)
known_with loop Function number is_last scope node = fails number (number_of_code code.Place)

-- the operation of this row, if its name is known
abbrev pub by_row : (ℕ → Scope → Node → Outcome (Step Op)) → Option Row → ℕ → Bool → Scope → Node → Outcome (Step Op)
by_row loop (Some row) number is_last scope node = known_with loop row number is_last scope node
by_row loop None number is_last scope node = fails number (number_of_code code.Name)

-- any operation, where it is known what a loop is
unfoldable pub operation_with : (ℕ → Scope → Node → Outcome (Step Op)) → Bool → Scope → Node → Outcome (Step Op)
operation_with loop is_last scope node =
    by_row loop (row_of (out-Node node).name) (length scope.owners) is_last (numbered scope) node

-- ---- loops, by the number of regions that may still be opened
-- without any a loop fails, by this limit at the latest
unfoldable pub loop_of : ℕ → ℕ → Scope → Node → Outcome (Step Op)
loop_of zero number scope node = loop_with false (λ inner bodies. fails number (number_of_code code.Limit)) number scope node
loop_of (suc room) number scope node =
    loop_with true (only_region (region_with (operation_with (loop_of room)) Dimension)) number scope node

-- ---- functions and modules
-- a function in a module, in whose region so many more regions may be opened
unfoldable pub function_of : ℕ → Scope → Node → Outcome (Step Func)
function_of room scope node =
    checked (length scope.owners) (first_failing (function_rules (are_new scope.names [] (out-Node node).regions) node))
    (next (only_region (region_with (operation_with (loop_of room)) Plain) (numbered scope) (out-Node node).regions)
    (λ s. step (func_of node (length scope.owners) s.scope.values s.given) s.scope))

-- a module with its one function
unfoldable pub module_of : Mode → Option Node → Outcome ir.Module
module_of mode (Some node) =
    next (function_of (most_regions mode) (numbered first_scope) node) (λ s. gives (record { funcs = s.given ∷ []; owners = s.scope.owners }))
module_of mode None = fails 0 (number_of_code code.Place)

-- the module of a tree: the rules of the module itself are asked first, at its number 0, and then those of each
-- operation in the order of the text; a code is asked only where all smaller codes hold there. So what fails is the
-- first operation of the text at which a rule fails, where all operations before it are elaborated, and its smallest code.
unfoldable pub elaborated : Tree → Mode → Outcome ir.Module
elaborated tree mode = checked 0 (first_failing (module_rules tree.root mode)) (module_of mode (only_function tree.root))
