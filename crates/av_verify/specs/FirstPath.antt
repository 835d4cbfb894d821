-- Which trees have the forms of the first path. A property may stand among the attributes instead, and types are not looked at
-- where they are written: the elaboration compares them with those of the values.
use Rattle.std.specs.Prelude.{ℕ, ◌-◌, ◌==◌, pos, Bool, true, false, ◌&&◌, ◌||◌, List, [], ◌∷◌, length, take, drop, slice_get, Option, Some, None, is_some, codes}
use Rattle.std.specs.List.{list_all}
use Rattle.std.specs.Option.{option_eq, option_map_or}
use Rattle.std.specs.Ordering.{int_eq}
use Rattle.std.specs.Str.{bytes_eq}
use Rattle.av_tree.specs.declared.attribute.Attr.{Attr}
use Rattle.av_tree.specs.declared.attribute.Attr.TheVariants.{Number, «Type»}
use Rattle.av_tree.specs.declared.node.Node.{Node, out-Node}
use Rattle.av_tree.specs.declared.node.Body.{Body, out-Body}
use Rattle.av_tree.specs.declared.node.Tree.{Tree}
use Rattle.av_tree.specs.declared.written.SizeText.TheVariants.{Fixed}
use Rattle.av_tree.specs.declared.written.TypeText.{TypeText, TypeText-F, Scalar, MemRef, out-TypeText}
use Rattle.av_tree.specs.declared.written.TypeText.TheOpen as type
use Rattle.av_tree.specs.declared.written.ExprText.{ExprText, ExprText-F, out-ExprText}
use Rattle.av_tree.specs.declared.written.ExprText.TheOpen as expr
use Rattle.av_tree.specs.declared.written.MapText.{MapText}
use Rattle.av_verify.specs.declared.rows.Row.{Row}
use Rattle.av_verify.specs.declared.rows.Row.TheVariants.{Function, Constant, Loop, Load, Store}
use Rattle.av_verify.specs.Entries.{entry_of, number_of, map_of, is_dropped, counted}

-- ---- lists
-- there is exactly one, and it passes a test
abbrev pub is_only : {A : Type 0} → (A → Bool) → List A → Bool
is_only p (x ∷ []) = p x
is_only p _ = false

-- all before the last one
abbrev pub front : {A : Type 0} → List A → List A
front xs = take (length xs - 1) xs

-- there is a last one, which passes a test
abbrev pub is_last : {A : Type 0} → (A → Bool) → List A → Bool
is_last p xs = option_map_or p (slice_get xs (length xs - 1)) false

-- the last one passes a test, and each before it another
abbrev pub is_block : {A : Type 0} → (A → Bool) → (A → Bool) → List A → Bool
is_block inner last xs = is_last last xs && list_all inner (front xs)

-- ---- operations of any kind
abbrev pub is_named : List ℕ → Node → Bool
is_named name node = bytes_eq (out-Node node).name name

-- so many of its entries count
abbrev pub has_entries : ℕ → Row → Node → Bool
has_entries n row node = counted row node == n

-- of this name, and with neither properties nor attributes but those that are dropped
abbrev pub is_bare : List ℕ → Node → Bool
is_bare name node = is_named name node && list_all is_dropped (out-Node node).properties && list_all is_dropped (out-Node node).attrs

-- an end of a region that gives nothing
abbrev pub is_end : List ℕ → Node → Bool
is_end name node = is_bare name node && (length (out-Node node).operands == 0)

-- ---- constants
-- a number of type i32
abbrev pub is_plain_number : Option Attr → Bool
is_plain_number (Some (Number value (Scalar name))) = bytes_eq name (codes "i32")
is_plain_number _ = false

abbrev pub is_plain_constant : Node → Bool
is_plain_constant node =
    is_named (codes "arith.constant") node && has_entries 1 Constant node && is_plain_number (entry_of (codes "value") node)

-- ---- subscripts
abbrev pub has_no_parameter : MapText → Bool
has_no_parameter m = (length m.dims == 0) && (length m.syms == 0)

-- the name stands, and it alone
abbrev pub is_alone : List ℕ → List (List ℕ) → Bool
is_alone name names = is_only (λ n. bytes_eq n name) names

-- the name is the map's only parameter, a dimension, and the loop's variable its only value
abbrev pub is_variable : MapText → List (List ℕ) → List ℕ → List ℕ → Bool
is_variable m values variable name = (length m.syms == 0) && is_alone name m.dims && is_alone variable values

-- that name and a number
abbrev pub is_offset : MapText → List (List ℕ) → List ℕ → ExprText-F ExprText → ExprText-F ExprText → Bool
is_offset m values variable (expr.Name name) (expr.Const n) = is_variable m values variable name
is_offset m values variable left right = false

-- N, the name, the name + N or the name - N
abbrev pub is_subscript : MapText → List (List ℕ) → List ℕ → ExprText-F ExprText → Bool
is_subscript m values variable (expr.Const n) = has_no_parameter m && (length values == 0)
is_subscript m values variable (expr.Name name) = is_variable m values variable name
is_subscript m values variable (expr.Add left right) = is_offset m values variable (out-ExprText left) (out-ExprText right)
is_subscript m values variable (expr.Sub left right) = is_offset m values variable (out-ExprText left) (out-ExprText right)
is_subscript m values variable _ = false

abbrev pub has_plain_subscript : List (List ℕ) → List ℕ → Option MapText → Bool
has_plain_subscript values variable (Some m) = is_only (λ e. is_subscript m values variable (out-ExprText e)) m.results
has_plain_subscript values variable None = false

-- ---- loops
-- a load or a store, so many of whose operands stand before the values of its subscript
abbrev pub is_plain_access : Row → ℕ → List ℕ → Node → Bool
is_plain_access row first variable node =
    has_entries 1 row node
    && has_plain_subscript (drop first (out-Node node).operands) variable (map_of (entry_of (codes "map") node))

-- what stands in a loop with this variable
unfoldable pub is_in_loop : List ℕ → Node → Bool
is_in_loop variable node =
    is_plain_constant node
    || is_bare (codes "arith.addi") node
    || (is_named (codes "affine.load") node && is_plain_access Load 1 variable node)
    || (is_named (codes "affine.store") node && is_plain_access Store 2 variable node)

-- one argument, which is the variable, and operations that end with a yield of nothing
abbrev pub is_loop_body : Body → Bool
is_loop_body body =
    is_only (λ variable. is_block (is_in_loop variable.name) (is_end (codes "affine.yield")) (out-Body body).nodes) (out-Body body).args

abbrev pub is_number : ExprText-F ExprText → Bool
is_number (expr.Const n) = true
is_number _ = false

-- one number, and no parameter
abbrev pub is_constant_bound : Option MapText → Bool
is_constant_bound (Some m) = has_no_parameter m && is_only (λ e. is_number (out-ExprText e)) m.results
is_constant_bound None = false

-- a loop between two numbers with step 1, which has no operands and carries nothing
unfoldable pub is_plain_loop : Node → Bool
is_plain_loop node =
    is_named (codes "affine.for") node && has_entries 4 Loop node
    && (length (out-Node node).operands == 0)
    && is_constant_bound (map_of (entry_of (codes "lowerBoundMap") node))
    && is_constant_bound (map_of (entry_of (codes "upperBoundMap") node))
    && option_eq int_eq (number_of (entry_of (codes "step") node)) (Some (pos 1))
    && is_some (entry_of (codes "operandSegmentSizes") node)
    && is_only is_loop_body (out-Node node).regions

-- ---- the function and the module
-- a type `memref<Nxi32>`
abbrev pub is_plain_buffer : TypeText → Bool
is_plain_buffer (MemRef (Fixed n ∷ []) elem None) = bytes_eq elem (codes "i32")
is_plain_buffer _ = false

-- a function type without results
abbrev pub is_without_results : TypeText-F TypeText → Bool
is_without_results (type.Func inputs results) = length results == 0
is_without_results _ = false

abbrev pub gives_nothing : Option Attr → Bool
gives_nothing (Some («Type» ty)) = is_without_results (out-TypeText ty)
gives_nothing _ = false

abbrev pub is_in_function : Node → Bool
is_in_function node = is_plain_constant node || is_plain_loop node

abbrev pub is_function_body : Body → Bool
is_function_body body =
    list_all (λ arg. is_plain_buffer arg.ty) (out-Body body).args
    && is_block is_in_function (is_end (codes "func.return")) (out-Body body).nodes

-- a function with a name and a type, without results and attributes
unfoldable pub is_plain_function : Node → Bool
is_plain_function node =
    is_named (codes "func.func") node && has_entries 2 Function node
    && is_some (entry_of (codes "sym_name") node)
    && gives_nothing (entry_of (codes "function_type") node)
    && is_only is_function_body (out-Node node).regions

-- a module with one function
abbrev pub is_module_body : Body → Bool
is_module_body body = (length (out-Body body).args == 0) && is_only is_plain_function (out-Body body).nodes

abbrev pub is_plain_module : Node → Bool
is_plain_module node = is_bare (codes "builtin.module") node && is_only is_module_body (out-Node node).regions

-- no alias, and such a module
abbrev pub is_first_path_of : Tree → Bool
is_first_path_of tree = (length tree.aliases == 0) && is_plain_module tree.root
