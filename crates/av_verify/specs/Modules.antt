-- What is asked of modules and functions, and what functions are in a module.
use Rattle.std.specs.Prelude.{ℕ, ◌+◌, ◌*◌, ◌==◌, nat_le, sum, Bool, true, false, ◌&&◌, ◌||◌, if◌then◌else◌, List, [], ◌∷◌, length, Option, Some, None, is_some, codes}
use Rattle.std.specs.List.{list_all}
use Rattle.std.specs.Char.{is_ascii_digit, is_ascii_alphanumeric}
use Rattle.std.specs.Cmp.Lexicographic.{pointwise}
use Rattle.av_shapes.specs.Places.{lanes}
use Rattle.av_ir.specs.declared.ty.Ty.{Ty}
use Rattle.av_ir.specs.declared.module.Region.{Region}
use Rattle.av_ir.specs.declared.module.Func.{Func}
use Rattle.av_tree.specs.declared.attribute.Attr.{Attr}
use Rattle.av_tree.specs.declared.attribute.Attr.TheVariants.{Quoted, «Type»}
use Rattle.av_tree.specs.declared.node.Node.{Node, Node-F, fold-Node, out-Node}
use Rattle.av_tree.specs.declared.node.Body.{Body, Body-F, fold-Body, out-Body}
use Rattle.av_tree.specs.declared.node.BodyArg.{BodyArg}
use Rattle.av_tree.specs.declared.written.TypeText.{TypeText, TypeText-F, out-TypeText}
use Rattle.av_tree.specs.declared.written.TypeText.TheOpen as type
use Rattle.av_verify.specs.declared.module.Mode.{Mode}
use Rattle.av_verify.specs.declared.module.Mode.TheVariants.{Scalar, Vector, Run}
use Rattle.av_verify.specs.declared.refusal.Code.TheVariants as code
use Rattle.av_verify.specs.declared.refusal.Rule.{Rule}
use Rattle.av_verify.specs.declared.rows.Row.{Row}
use Rattle.av_verify.specs.declared.rows.Row.TheVariants.{Module, Function}
use Rattle.av_verify.specs.Codes.{asks}
use Rattle.av_verify.specs.Entries.{entry_of, has_good_entries, has_needed}
use Rattle.av_verify.specs.FirstPath.{gives_nothing, is_only}
use Rattle.av_verify.specs.Loops.{end_with}
use Rattle.av_verify.specs.Ops.{no_marks}
use Rattle.av_verify.specs.Results.{has_no_result}
use Rattle.av_verify.specs.Rows.{row_of}
use Rattle.av_verify.specs.Types.{is_type, is_within_limits, same_type}

-- a letter, a digit, or one of `$._-`
abbrev pub is_symbol_byte : ℕ → Bool
is_symbol_byte b = is_ascii_alphanumeric b || (b == 36) || (b == 46) || (b == 95) || (b == 45)

-- digits alone, or another of these bytes and any of them
abbrev pub goes_on : ℕ → ℕ → Bool
goes_on first b = if is_ascii_digit first then is_ascii_digit b else is_symbol_byte b

abbrev pub is_symbol : List ℕ → Bool
is_symbol [] = false
is_symbol (first ∷ rest) = is_symbol_byte first && list_all (goes_on first) rest

-- the name of a function, without its `@`; no name where it has none
abbrev pub quoted : Option Attr → List ℕ
quoted (Some (Quoted name)) = name
quoted _ = []

abbrev pub name_of : Node → List ℕ
name_of node = quoted (entry_of (codes "sym_name") node)

-- the types of a function's results
abbrev pub results_in_type : TypeText-F TypeText → Option (List TypeText)
results_in_type (type.Func inputs results) = Some results
results_in_type _ = None

abbrev pub results_of : Option Attr → Option (List TypeText)
results_of (Some («Type» ty)) = results_in_type (out-TypeText ty)
results_of _ = None

-- the types of a function's arguments
abbrev pub inputs_in_type : TypeText-F TypeText → Option (List TypeText)
inputs_in_type (type.Func inputs results) = Some inputs
inputs_in_type _ = None

abbrev pub inputs_of : Option Attr → Option (List TypeText)
inputs_of (Some («Type» ty)) = inputs_in_type (out-TypeText ty)
inputs_of _ = None

-- arguments are of these types, where a function type is written
abbrev pub are_inputs : Option (List TypeText) → List BodyArg → Bool
are_inputs (Some types) args = pointwise (λ ty arg. same_type ty arg.ty) types args
are_inputs None args = true

-- arguments have types of values, and those that the function type says; nothing else is written with a type
abbrev pub has_function_types : Node → Bool
has_function_types node =
    list_all (λ body. list_all (λ arg. is_type arg.ty) (out-Body body).args && are_inputs (inputs_of (entry_of (codes "function_type") node)) (out-Body body).args) (out-Node node).regions
    && (length (out-Node node).in_types == 0) && (length (out-Node node).out_types == 0)

-- a function has a name that is spelled as a symbol, and a function type
abbrev pub has_function_entries : Node → Bool
has_function_entries node =
    has_good_entries Function node && is_symbol (name_of node) && is_some (results_of (entry_of (codes "function_type") node))

-- the types of all arguments are within their limits
abbrev pub are_within_limits : Node → Bool
are_within_limits node = list_all (λ body. list_all (λ arg. is_within_limits arg.ty) (out-Body body).args) (out-Node node).regions

-- one region, without arguments
abbrev pub has_plain_region : Node → Bool
has_plain_region node = is_only (λ body. length (out-Body body).args == 0) (out-Node node).regions

abbrev pub is_function : Option Row → Bool
is_function (Some Function) = true
is_function _ = false

abbrev pub is_module : Option Row → Bool
is_module (Some Module) = true
is_module _ = false

-- where it is known whether the arguments' names are new; functions give no results yet
abbrev pub function_rules : Bool → Node → List Rule
function_rules new node =
    asks code.Name (is_function (row_of (out-Node node).name))
    ∷ asks code.Operands (length (out-Node node).operands == 0)
    ∷ asks code.Results (has_no_result node)
    ∷ asks code.New new
    ∷ asks code.Types (has_function_types node)
    ∷ asks code.Needed (has_needed Function node)
    ∷ asks code.Property (has_function_entries node)
    ∷ asks code.Terminator (end_with (codes "func.return") (out-Node node).regions)
    ∷ asks code.Regions (length (out-Node node).regions == 1)
    ∷ asks code.Limit (are_within_limits node)
    ∷ asks code.Place (gives_nothing (entry_of (codes "function_type") node))
    ∷ []

-- a function with the values of its scope around its body
abbrev pub func_of : Node → ℕ → List Ty → Region → Func
func_of node number values body =
    record { name = name_of node; number = number; values = values; results = []; body = body; marks = no_marks }

-- ---- the module
-- the number of operations in an operation, itself included, and in a region
abbrev pub count_region : Body-F ℕ ℕ → ℕ
count_region body = sum body.nodes

abbrev pub count_node : Node-F ℕ ℕ → ℕ
count_node node = 1 + sum node.regions

unfoldable pub operations_in : Node → ℕ
operations_in = fold-Node ℕ ℕ count_region count_node

unfoldable pub operations_within : Body → ℕ
operations_within = fold-Body ℕ ℕ count_region count_node

-- the operations times the lanes of the shape are at most 2 ^ 19; a module with vectors has as many operations, and
-- one that is run is of any size
abbrev pub is_within_size : Node → Mode → Bool
is_within_size root (Scalar shape) = nat_le (operations_in root * lanes shape 1) 0x8_0000
is_within_size root Vector = nat_le (operations_in root) 0x8_0000
is_within_size root Run = true

-- the one operation in the module
abbrev pub only_node : List Node → Option Node
only_node (node ∷ []) = Some node
only_node _ = None

abbrev pub only_in : List Body → Option Node
only_in (body ∷ []) = only_node (out-Body body).nodes
only_in _ = None

abbrev pub only_function : Node → Option Node
only_function root = only_in (out-Node root).regions

-- more functions aren't taken yet
abbrev pub module_rules : Node → Mode → List Rule
module_rules root mode =
    asks code.Name (is_module (row_of (out-Node root).name))
    ∷ asks code.Operands (length (out-Node root).operands == 0)
    ∷ asks code.Results (has_no_result root)
    ∷ asks code.Types ((length (out-Node root).in_types == 0) && (length (out-Node root).out_types == 0))
    ∷ asks code.Regions (has_plain_region root)
    ∷ asks code.Place (is_some (only_function root))
    ∷ asks code.Size (is_within_size root mode)
    ∷ []

-- the regions that may be open within a function's
abbrev pub most_regions : Mode → ℕ
most_regions (Scalar shape) = 30
most_regions _ = 38
