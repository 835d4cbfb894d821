-- Modules, functions and terminators.
use Rattle.std.specs.Prelude.{ℕ, Bool, false, List, [], ◌∷◌, ◌++◌, codes, drop, map, reverse, if◌then◌else◌, Option, Some}
use Rattle.std.specs.Str.{bytes_eq}
use Rattle.av_tree.specs.declared.node.Node.{Node, out-Node, roll-Node}
use Rattle.av_tree.specs.declared.node.Body.{Body, roll-Body}
use Rattle.av_tree.specs.declared.node.BodyArg.{BodyArg}
use Rattle.av_tree.specs.declared.attribute.Attr.TheVariants as attr
use Rattle.av_tree.specs.declared.attribute.Named.{Named}
use Rattle.av_tree.specs.declared.written.TypeText.{TypeText}
use Rattle.av_tree.specs.declared.written.TypeText.TheVariants as ty
use Rattle.av_values.specs.declared.value.TypedValues.{TypedValues}
use Rattle.av_values.specs.Nodes.{plain, entry}

-- an operation with the names of its results, which then begins with them
abbrev pub named : Node → List (List ℕ) → ℕ → Node
named node results place = roll-Node (record (out-Node node) { results = results; place = place })

-- with these properties, attributes and regions
abbrev pub with_regions : Node → List Named → List Named → List Body → Node
with_regions node properties attrs regions = roll-Node (record (out-Node node) { properties = properties; attrs = attrs; regions = regions })

-- a module of these operations, the last one first
abbrev pub module_of : List Named → List Named → List Node → ℕ → Node
module_of properties attrs nodes place =
    with_regions (plain (codes "builtin.module") place) properties attrs (roll-Body (record { args = []; nodes = reverse nodes }) ∷ [])

-- whether this is one module and nothing more
abbrev pub is_module : List Node → Bool
is_module (node ∷ []) = bytes_eq (out-Node node).name (codes "builtin.module")
is_module _ = false

-- the module of a file, which is put in around all that is no module alone
abbrev pub root_of : List Node → Node
root_of [] = module_of [] [] [] 0
root_of (node ∷ nodes) = if is_module (node ∷ nodes) then node else module_of [] [] (node ∷ nodes) 0

-- the property of a function that says its type
abbrev pub function_type : List BodyArg → List TypeText → Named
function_type args results = entry (codes "function_type") (attr.Type (ty.Func (map (λ (arg : BodyArg). arg.ty) args) results))

-- a function of this visibility, symbol, arguments, results, attributes and operations, each list from the last to the first
abbrev pub function_of : List Named → List ℕ → List BodyArg → List TypeText → List Named → List Node → ℕ → Node
function_of properties symbol args results attrs nodes place =
    with_regions (plain (codes "func.func") place)
    (properties ++ function_type (reverse args) (reverse results) ∷ entry (codes "sym_name") (attr.Quoted (drop 1 symbol)) ∷ [])
    (reverse attrs)
    (roll-Body (record { args = reverse args; nodes = reverse nodes }) ∷ [])

-- the name of a terminator of this word: `return` is short for `func.return`
abbrev pub name_of_end : List ℕ → List ℕ
name_of_end word = if bytes_eq word (codes "return") then codes "func.return" else word

-- with these operands of these types
abbrev pub with_typed : Node → List (List ℕ) → List (Option TypeText) → Node
with_typed node operands types = roll-Node (record (out-Node node) { operands = operands; in_types = types })

-- a terminator of this word, with its values
abbrev pub terminator_of : List ℕ → TypedValues → ℕ → Node
terminator_of word values place =
    with_typed (plain (name_of_end word) place) (reverse values.values) (map (λ (type : TypeText). Some type) (reverse values.types))

abbrev pub no_values : TypedValues
no_values = record { values = []; types = [] }
