-- What is asked of operations that end a region, and what they are in a module.
use Rattle.std.specs.Prelude.{ℕ, ◌==◌, Bool, not, ◌&&◌, ◌||◌, List, [], ◌∷◌, length}
use Rattle.std.specs.Cmp.Lexicographic.{pointwise}
use Rattle.av_ir.specs.declared.module.ValueId.{ValueId}
use Rattle.av_ir.specs.declared.module.OpKind.{OpKind}
use Rattle.av_ir.specs.declared.module.OpKind.TheVariants.{FuncReturn, AffineYield}
use Rattle.av_ir.specs.declared.module.Op.{Op}
use Rattle.av_tree.specs.declared.node.Node.{Node, out-Node}
use Rattle.av_verify.specs.declared.refusal.Code.TheVariants as code
use Rattle.av_verify.specs.declared.refusal.Rule.{Rule}
use Rattle.av_verify.specs.declared.rows.Row.{Row}
use Rattle.av_verify.specs.declared.rows.Row.TheVariants.{Return}
use Rattle.av_verify.specs.declared.scope.Scope.{Scope}
use Rattle.av_verify.specs.Arith.{operands_of}
use Rattle.av_verify.specs.Codes.{asks}
use Rattle.av_verify.specs.Entries.{has_needed, has_good_entries}
use Rattle.av_verify.specs.Names.{are_visible}
use Rattle.av_verify.specs.Ops.{op_of, no_marks}
use Rattle.av_verify.specs.Results.{has_no_result}
use Rattle.av_verify.specs.Scopes.{agrees_at}

abbrev pub end_kind : Row → OpKind
end_kind Return = FuncReturn
end_kind _ = AffineYield

abbrev pub end_agrees : Scope → Node → List ValueId → Bool
end_agrees scope node operands =
    pointwise (agrees_at scope.values) (out-Node node).in_types operands && (length (out-Node node).out_types == 0)

-- nothing is handed on yet; that an end is of its region's own kind is asked at the operation around it
abbrev pub end_rules : Row → Bool → Scope → Node → List Rule
end_rules row is_last scope node =
    asks code.Operands ((length (out-Node node).operands == 0) || not is_last)
    ∷ asks code.Results (has_no_result node)
    ∷ asks code.Visible (are_visible scope.names (out-Node node).operands)
    ∷ asks code.Types (end_agrees scope node (operands_of scope node))
    ∷ asks code.Needed (has_needed row node)
    ∷ asks code.Property (has_good_entries row node)
    ∷ asks code.Terminator is_last
    ∷ asks code.Regions (length (out-Node node).regions == 0)
    ∷ []

abbrev pub end_op : Row → Scope → Node → ℕ → Op
end_op row scope node number = op_of number (end_kind row) (operands_of scope node) [] [] no_marks
