-- What is asked of loads and stores, and what they are in a module.
use Rattle.std.specs.Prelude.{ℕ, ◌==◌, nat_le, Bool, true, false, not, ◌&&◌, List, [], ◌∷◌, ◌++◌, length, take, drop, slice_get, Option, Some, None, is_some, codes}
use Rattle.std.specs.Option.{option_and_then, option_map_or}
use Rattle.std.specs.Cmp.Lexicographic.{pointwise}
use Rattle.av_affine.specs.declared.expression.AffMap.{AffMap}
use Rattle.av_ir.specs.declared.ty.Elem.{Elem}
use Rattle.av_ir.specs.declared.ty.Elem.TheVariants.{Index}
use Rattle.av_ir.specs.declared.ty.Ty.{Ty}
use Rattle.av_ir.specs.declared.ty.Ty.TheVariants.{Scalar, MemRef}
use Rattle.av_ir.specs.declared.module.ValueId.{ValueId}
use Rattle.av_ir.specs.declared.module.OpKind.TheVariants.{AffineLoad, AffineStore}
use Rattle.av_ir.specs.declared.module.Op.{Op}
use Rattle.av_tree.specs.declared.node.Node.{Node, out-Node}
use Rattle.av_tree.specs.declared.written.MapText.{MapText}
use Rattle.av_verify.specs.declared.maps.MapUse.{MapUse}
use Rattle.av_verify.specs.declared.refusal.Code.TheVariants as code
use Rattle.av_verify.specs.declared.refusal.Rule.{Rule}
use Rattle.av_verify.specs.declared.rows.Row.TheVariants.{Load, Store}
use Rattle.av_verify.specs.declared.scope.Scope.{Scope}
use Rattle.av_verify.specs.Arith.{operands_of, agrees_on_result}
use Rattle.av_verify.specs.Codes.{asks}
use Rattle.av_verify.specs.Entries.{entry_of, map_of, has_needed, has_good_entries, marks_of}
use Rattle.av_verify.specs.Expressions.{is_affine}
use Rattle.av_verify.specs.Maps.{has_arity, are_map_operands, normalised}
use Rattle.av_verify.specs.Names.{is_visible, are_visible}
use Rattle.av_verify.specs.Ops.{op_of}
use Rattle.av_verify.specs.Results.{has_one_result, has_no_result, result_name}
use Rattle.av_verify.specs.Scopes.{next_value, type_at, agrees_at}
use Rattle.av_verify.specs.Types.{is_elem, scalar_of}

-- ---- buffers
-- the type of the value at a place of the operands
abbrev pub operand_type : List Ty → List ValueId → ℕ → Option Ty
operand_type values operands at = option_and_then (type_at values) (slice_get operands at)

-- the rank and the element type of a buffer; 0 and `index` where it is none, which is refused
abbrev pub rank_of : Option Ty → ℕ
rank_of (Some (MemRef sizes elem)) = length sizes
rank_of _ = 0

abbrev pub elem_of_buffer : Option Ty → Elem
elem_of_buffer (Some (MemRef sizes elem)) = elem
elem_of_buffer _ = Index

abbrev pub is_buffer : Option Ty → Bool
is_buffer (Some (MemRef sizes elem)) = true
is_buffer _ = false

-- ---- maps
-- at most 8 results
abbrev pub has_few_results : Option MapText → Bool
has_few_results (Some m) = nat_le (length m.results) 8
has_few_results None = false

-- the normal form of a map; a map of no results where there is none, which is refused
abbrev pub no_map : AffMap
no_map = record { dims = 0; syms = 0; results = [] }

abbrev pub normal_of : Option MapText → List ValueId → MapUse
normal_of (Some m) values = normalised m values
normal_of None values = record { map = no_map; operands = [] }

abbrev pub normal_entry : Node → List ℕ → List ValueId → MapUse
normal_entry node name values = normal_of (map_of (entry_of name node)) values

-- the map of an access
abbrev pub access_map : Node → Option MapText
access_map node = map_of (entry_of (codes "map") node)

-- the operands of an access are its first ones and the values that its normal map needs
abbrev pub after_first : ℕ → List ValueId → MapUse → MapUse
after_first first values used = record { map = used.map; operands = take first values ++ used.operands }

abbrev pub used_map : Node → List ValueId → ℕ → MapUse
used_map node values first = after_first first values (normal_entry node (codes "map") (drop first values))

-- ---- loads
abbrev pub load_agrees : List Ty → Node → List ValueId → Bool
load_agrees values node operands =
    is_buffer (operand_type values operands 0)
    && agrees_on_result node (Scalar (elem_of_buffer (operand_type values operands 0)))
    && pointwise (agrees_at values) (out-Node node).in_types operands

abbrev pub load_rules_at : Scope → Node → List ValueId → List Rule
load_rules_at scope node operands =
    asks code.Operands (not (length (out-Node node).operands == 0))
    ∷ asks code.Results (has_one_result node)
    ∷ asks code.Visible (are_visible scope.names (out-Node node).operands)
    ∷ asks code.New (not (is_visible scope.names (result_name node)))
    ∷ asks code.Types (load_agrees scope.values node operands)
    ∷ asks code.Needed (has_needed Load node)
    ∷ asks code.Property (has_good_entries Load node && is_some (access_map node))
    ∷ asks code.Arity (has_arity (access_map node) (length (drop 1 operands)) (rank_of (operand_type scope.values operands 0)))
    ∷ asks code.Dimension (are_map_operands scope.roles (access_map node) (drop 1 operands))
    ∷ asks code.Regions (length (out-Node node).regions == 0)
    ∷ asks code.Expression (is_affine (access_map node))
    ∷ asks code.Limit (has_few_results (access_map node))
    ∷ []

abbrev pub load_rules : Scope → Node → List Rule
load_rules scope node = load_rules_at scope node (operands_of scope node)

-- the element type of what is loaded
abbrev pub loaded_elem : Scope → Node → Elem
loaded_elem scope node = elem_of_buffer (operand_type scope.values (operands_of scope node) 0)

abbrev pub load_with : ℕ → ValueId → Node → MapUse → Op
load_with number value node used = op_of number (AffineLoad used.map) used.operands (value ∷ []) [] (marks_of Load node)

abbrev pub load_op : Scope → Node → ℕ → Op
load_op scope node number = load_with number (next_value scope) node (used_map node (operands_of scope node) 1)

-- ---- stores
-- the stored value is a scalar of the buffer's element type
abbrev pub stores_elem : List Ty → List ValueId → Bool
stores_elem values operands =
    option_map_or (is_elem (elem_of_buffer (operand_type values operands 1))) (option_and_then scalar_of (operand_type values operands 0)) false

abbrev pub store_agrees : List Ty → Node → List ValueId → Bool
store_agrees values node operands =
    is_buffer (operand_type values operands 1)
    && stores_elem values operands
    && (length (out-Node node).out_types == 0)
    && pointwise (agrees_at values) (out-Node node).in_types operands

abbrev pub store_rules_at : Scope → Node → List ValueId → List Rule
store_rules_at scope node operands =
    asks code.Operands (nat_le 2 (length (out-Node node).operands))
    ∷ asks code.Results (has_no_result node)
    ∷ asks code.Visible (are_visible scope.names (out-Node node).operands)
    ∷ asks code.Types (store_agrees scope.values node operands)
    ∷ asks code.Needed (has_needed Store node)
    ∷ asks code.Property (has_good_entries Store node && is_some (access_map node))
    ∷ asks code.Arity (has_arity (access_map node) (length (drop 2 operands)) (rank_of (operand_type scope.values operands 1)))
    ∷ asks code.Dimension (are_map_operands scope.roles (access_map node) (drop 2 operands))
    ∷ asks code.Regions (length (out-Node node).regions == 0)
    ∷ asks code.Expression (is_affine (access_map node))
    ∷ asks code.Limit (has_few_results (access_map node))
    ∷ []

abbrev pub store_rules : Scope → Node → List Rule
store_rules scope node = store_rules_at scope node (operands_of scope node)

abbrev pub store_with : ℕ → Node → MapUse → Op
store_with number node used = op_of number (AffineStore used.map) used.operands [] [] (marks_of Store node)

abbrev pub store_op : Scope → Node → ℕ → Op
store_op scope node number = store_with number node (used_map node (operands_of scope node) 2)
