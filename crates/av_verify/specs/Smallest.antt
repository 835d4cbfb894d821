-- The code that an operation fails with: the smallest of those whose rules fail there.
use Rattle.std.specs.Prelude.{◌≡◌, ◌≤◌, Bool, false, true, List, Contains, MatchOption}
use Rattle.std.specs.List.{All}
use Rattle.av_bits.specs.declared.types.BinOp.{BinOp}
use Rattle.av_ir.specs.declared.module.ValueId.{ValueId}
use Rattle.av_tree.specs.declared.node.Node.{Node}
use Rattle.av_verify.specs.declared.module.Mode.{Mode}
use Rattle.av_verify.specs.declared.refusal.Code.{Code}
use Rattle.av_verify.specs.declared.refusal.Rule.{Rule}
use Rattle.av_verify.specs.declared.rows.Row.{Row}
use Rattle.av_verify.specs.declared.scope.Scope.{Scope}
use Rattle.av_verify.specs.Accesses.{load_rules, store_rules}
use Rattle.av_verify.specs.Arith.{constant_rules, binary_rules}
use Rattle.av_verify.specs.Codes.{first_failing, number_of_code}
use Rattle.av_verify.specs.Ends.{end_rules}
use Rattle.av_verify.specs.Loops.{loop_rules}
use Rattle.av_verify.specs.Modules.{function_rules, module_rules}

-- a rule of this code fails among rules, and each that fails there has this code or a greater one
pub record IsSmallest (rules : List Rule) (failing : Code) : Type 0 where
  pub rule : Rule
  pub among : Contains rules rule
  pub fails : rule.holds ≡ false
  pub code : rule.code ≡ failing
  pub smallest : All (λ other. other.holds ≡ false → number_of_code failing ≤ number_of_code other.code) rules

-- The rules that are asked of an operation: of the module, of a function in it, and of an operation in a region by its
-- name. One whose name isn't known fails by that alone, and so does a module or a function in a region by its place.
pub data AreAsked (rules : List Rule) : Type 0 where
  of_module : (root : Node) (mode : Mode) → rules ≡ module_rules root mode → AreAsked rules
  of_function : (new : Bool) (node : Node) → rules ≡ function_rules new node → AreAsked rules
  of_loop : (new has_room : Bool) (scope : Scope) (node : Node) (operands : List ValueId) → rules ≡ loop_rules new has_room scope node operands
      → AreAsked rules
  of_constant : (scope : Scope) (node : Node) → rules ≡ constant_rules scope node → AreAsked rules
  of_binary : (op : BinOp) (scope : Scope) (node : Node) → rules ≡ binary_rules op scope node → AreAsked rules
  of_load : (scope : Scope) (node : Node) → rules ≡ load_rules scope node → AreAsked rules
  of_store : (scope : Scope) (node : Node) → rules ≡ store_rules scope node → AreAsked rules
  of_end : (row : Row) (is_last : Bool) (scope : Scope) (node : Node) → rules ≡ end_rules row is_last scope node → AreAsked rules

-- an operation fails with the smallest code of the rules that fail there, and with none only where all hold
abbrev pub SmallestCodeLaw : Type 0
SmallestCodeLaw = (rules : List Rule) → AreAsked rules → MatchOption (first_failing rules) (All (λ rule. rule.holds ≡ true) rules) (IsSmallest rules)
