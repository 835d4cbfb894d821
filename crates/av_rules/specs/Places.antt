-- An operation in its place, before its types are asked.
use Rattle.std.specs.Prelude.{ℕ, Bool, List, Option, map}
use Rattle.av_ir.specs.declared.ty.Ty.{Ty}
use Rattle.av_tree.specs.declared.attribute.Alias.{Alias}
use Rattle.av_tree.specs.declared.node.Node.{Node}
use Rattle.av_rules.specs.declared.mode.Mode.{Mode}
use Rattle.av_rules.specs.Rows.{Row, row_of}
use Rattle.av_rules.specs.Scopes.{Scope, type_named}
use Rattle.av_rules.specs.Views.{fields}

-- the operation in whose region another one stands, with the types that the region's terminator hands on, where they are known
pub record Holder : Type 0 where
  pub row : Option Row
  pub hands_on : Option (List (Option Ty))

-- An operation with what is known at its place: its holder, if it isn't the module; how many regions it stands in; whether it
-- is the last of its region; what is visible there; the names of the functions before it; and what is the same everywhere.
pub record Site : Type 0 where
  pub node : Node
  pub holder : Option Holder
  pub depth : ℕ
  pub is_last : Bool
  pub scope : Scope
  pub earlier : List (List ℕ)
  pub aliases : List Alias
  pub mode : Mode

abbrev pub name_of : Site → List ℕ
name_of site = (fields site.node).name

abbrev pub site_row : Site → Option Row
site_row site = row_of (name_of site)

-- the types of its operands, as they are found
abbrev pub operand_types : Site → List (Option Ty)
operand_types site = map (type_named site.scope) (fields site.node).operands
