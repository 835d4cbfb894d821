-- What is asked of operations of the Arith dialect, and what they are in a module.
use Rattle.std.specs.Prelude.{ℕ, ◌-◌, ◌^◌, ◌==◌, ℤ, pos, neg_ℤ, int_le, int_lt, Bool, true, false, not, ◌&&◌, List, [], ◌∷◌, length, Option, Some, None, is_some, unwrap_or, codes}
use Rattle.std.specs.Option.{option_and_then, option_map_or}
use Rattle.std.specs.Cmp.Lexicographic.{pointwise}
use Rattle.av_bits.specs.declared.types.Width.{Width}
use Rattle.av_bits.specs.declared.types.BinOp.{BinOp}
use Rattle.av_bits.specs.Pattern.{bits_of, pattern_of}
use Rattle.av_ir.specs.declared.ty.Elem.{Elem}
use Rattle.av_ir.specs.declared.ty.Elem.TheVariants.{Index}
use Rattle.av_ir.specs.declared.ty.Ty.{Ty}
use Rattle.av_ir.specs.declared.ty.Ty.TheVariants.{Scalar}
use Rattle.av_ir.specs.declared.module.ValueId.{ValueId}
use Rattle.av_ir.specs.declared.module.Const.TheVariants.{Splat}
use Rattle.av_ir.specs.declared.module.OpKind.TheVariants.{ArithConstant, ArithBinary}
use Rattle.av_ir.specs.declared.module.Op.{Op}
use Rattle.av_ir.specs.Values.{width_of}
use Rattle.av_tree.specs.declared.attribute.Attr.{Attr}
use Rattle.av_tree.specs.declared.attribute.Attr.TheVariants.{Number}
use Rattle.av_tree.specs.declared.node.Node.{Node, out-Node}
use Rattle.av_tree.specs.declared.written.TypeText.{TypeText}
use Rattle.av_verify.specs.declared.refusal.Code.TheVariants as code
use Rattle.av_verify.specs.declared.refusal.Rule.{Rule}
use Rattle.av_verify.specs.declared.rows.Row.TheVariants.{Constant, Binary}
use Rattle.av_verify.specs.declared.scope.Scope.{Scope}
use Rattle.av_verify.specs.Codes.{asks}
use Rattle.av_verify.specs.Entries.{entry_of, number_of, has_needed, has_good_entries}
use Rattle.av_verify.specs.Names.{is_visible, are_visible, values_named}
use Rattle.av_verify.specs.Ops.{op_of, no_marks}
use Rattle.av_verify.specs.Results.{has_one_result, result_name}
use Rattle.av_verify.specs.Scopes.{next_value, type_at, agrees_at}
use Rattle.av_verify.specs.Types.{agrees, is_elem, scalar_of, written_scalar}

-- ---- constants
-- the type that the one result is written with
abbrev pub written_result : List (Option TypeText) → Option Elem
written_result (Some ty ∷ []) = written_scalar ty
written_result _ = None

abbrev pub constant_elem : Node → Elem
constant_elem node = unwrap_or (written_result (out-Node node).out_types) Index

-- a constant is written with a type, and its number with the same
abbrev pub value_agrees : Option Elem → Option Attr → Bool
value_agrees (Some elem) (Some (Number value ty)) = option_map_or (is_elem elem) (written_scalar ty) false
value_agrees (Some elem) _ = true
value_agrees None _ = false

abbrev pub constant_agrees : Node → Bool
constant_agrees node =
    value_agrees (written_result (out-Node node).out_types) (entry_of (codes "value") node)
    && (length (out-Node node).in_types == 0)

-- from -2 ^ (w - 1) to 2 ^ w - 1 at width w
abbrev pub fits : Width → ℤ → Bool
fits width value = int_le (neg_ℤ (pos (2 ^ (bits_of width - 1)))) value && int_lt value (pos (2 ^ bits_of width))

abbrev pub fits_value : Elem → Option ℤ → Bool
fits_value elem (Some value) = fits (width_of elem) value
fits_value elem None = false

abbrev pub constant_rules : Scope → Node → List Rule
constant_rules scope node =
    asks code.Operands (length (out-Node node).operands == 0)
    ∷ asks code.Results (has_one_result node)
    ∷ asks code.New (not (is_visible scope.names (result_name node)))
    ∷ asks code.Types (constant_agrees node)
    ∷ asks code.Needed (has_needed Constant node)
    ∷ asks code.Property (has_good_entries Constant node && is_some (number_of (entry_of (codes "value") node)))
    ∷ asks code.Regions (length (out-Node node).regions == 0)
    ∷ asks code.Constant (fits_value (constant_elem node) (number_of (entry_of (codes "value") node)))
    ∷ []

-- the pattern of the number
abbrev pub constant_pattern : Node → ℕ
constant_pattern node = pattern_of (bits_of (width_of (constant_elem node))) (unwrap_or (number_of (entry_of (codes "value") node)) (pos 0))

abbrev pub constant_op : Scope → Node → ℕ → Op
constant_op scope node number =
    op_of number (ArithConstant (Splat (constant_pattern node))) [] (next_value scope ∷ []) [] no_marks

-- ---- binary operations
abbrev pub operands_of : Scope → Node → List ValueId
operands_of scope node = values_named scope.names (out-Node node).operands

-- the element type of a value, if it is a scalar
abbrev pub scalar_at : List Ty → ValueId → Option Elem
scalar_at values value = option_and_then scalar_of (type_at values value)

abbrev pub first_elem : List Ty → List ValueId → Elem
first_elem values (left ∷ more) = unwrap_or (scalar_at values left) Index
first_elem values [] = Index

abbrev pub left_elem : Scope → Node → Elem
left_elem scope node = first_elem scope.values (operands_of scope node)

abbrev pub alike : Option Elem → Option Elem → Bool
alike (Some a) (Some b) = is_elem a b
alike _ _ = false

-- two values are scalars of one type
abbrev pub are_alike : List Ty → List ValueId → Bool
are_alike values (left ∷ right ∷ []) = alike (scalar_at values left) (scalar_at values right)
are_alike values _ = false

-- the one result of an operation is written with this type, or with none
abbrev pub only_agrees : Ty → List (Option TypeText) → Bool
only_agrees ty (written ∷ []) = agrees written ty
only_agrees ty _ = false

abbrev pub agrees_on_result : Node → Ty → Bool
agrees_on_result node ty = only_agrees ty (out-Node node).out_types

abbrev pub binary_agrees : List Ty → Node → List ValueId → Bool
binary_agrees values node operands =
    are_alike values operands
    && agrees_on_result node (Scalar (first_elem values operands))
    && pointwise (agrees_at values) (out-Node node).in_types operands

abbrev pub binary_rules : BinOp → Scope → Node → List Rule
binary_rules op scope node =
    asks code.Operands (length (out-Node node).operands == 2)
    ∷ asks code.Results (has_one_result node)
    ∷ asks code.Visible (are_visible scope.names (out-Node node).operands)
    ∷ asks code.New (not (is_visible scope.names (result_name node)))
    ∷ asks code.Types (binary_agrees scope.values node (operands_of scope node))
    ∷ asks code.Needed (has_needed (Binary op) node)
    ∷ asks code.Property (has_good_entries (Binary op) node)
    ∷ asks code.Regions (length (out-Node node).regions == 0)
    ∷ []

abbrev pub binary_op : BinOp → Scope → Node → ℕ → Op
binary_op op scope node number =
    op_of number (ArithBinary op) (operands_of scope node) (next_value scope ∷ []) [] no_marks
