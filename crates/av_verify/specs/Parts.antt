-- The types of the walk and their values by name, for laws in other crates.
use Rattle.av_bits.specs.declared.types.BinOp.{BinOp}
use Rattle.av_verify.specs.declared.maps.MapUse.{MapUse as OwnMapUse}
use Rattle.av_verify.specs.declared.refusal.Code.{Code as OwnCode}
use Rattle.av_verify.specs.declared.refusal.Rule.{Rule as OwnRule}
use Rattle.av_verify.specs.declared.rows.Row.{Row as OwnRow}
use Rattle.av_verify.specs.declared.rows.Row.TheVariants as row
use Rattle.av_verify.specs.declared.scope.Role.{Role as OwnRole}
use Rattle.av_verify.specs.declared.scope.Role.TheVariants as role
use Rattle.av_verify.specs.declared.scope.Scope.{Scope as OwnScope}

abbrev pub MapUse : Type 0
MapUse = OwnMapUse

abbrev pub Code : Type 0
Code = OwnCode

abbrev pub Rule : Type 0
Rule = OwnRule

abbrev pub Scope : Type 0
Scope = OwnScope

-- ---- roles of values
abbrev pub Role : Type 0
Role = OwnRole

abbrev pub Plain : Role
Plain = role.Plain

abbrev pub Dimension : Role
Dimension = role.Dimension

-- ---- rows of operations
abbrev pub Row : Type 0
Row = OwnRow

abbrev pub Return : Row
Return = row.Return

abbrev pub Constant : Row
Constant = row.Constant

abbrev pub Binary : BinOp → Row
Binary op = row.Binary op

abbrev pub Loop : Row
Loop = row.Loop

abbrev pub Yield : Row
Yield = row.Yield

abbrev pub Load : Row
Load = row.Load

abbrev pub Store : Row
Store = row.Store
