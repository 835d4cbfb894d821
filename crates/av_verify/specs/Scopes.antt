-- The values of a function so far, and the names that are visible.
use Rattle.std.specs.Prelude.{ℕ, Bool, true, false, List, [], ◌∷◌, ◌++◌, length, slice_get, Option, Some}
use Rattle.std.specs.Option.{option_map_or}
use Rattle.av_ir.specs.declared.ty.Ty.{Ty}
use Rattle.av_ir.specs.declared.module.ValueId.{ValueId}
use Rattle.av_tree.specs.declared.written.TypeText.{TypeText}
use Rattle.av_verify.specs.declared.scope.Role.{Role}
use Rattle.av_verify.specs.declared.scope.Role.TheVariants.{Dimension}
use Rattle.av_verify.specs.declared.scope.Scope.{Scope}
use Rattle.av_verify.specs.Names.{bound}
use Rattle.av_verify.specs.Types.{agrees}

-- nothing yet
abbrev pub first_scope : Scope
first_scope = record { names = []; values = []; roles = []; owners = [] }

-- values are numbered in order
abbrev pub next_value : Scope → ValueId
next_value scope = record { 0 = length scope.values }

-- one value more, of this type and role, under a name
abbrev pub defined : Scope → List ℕ → Ty → Role → Scope
defined scope name ty role =
    record scope { names = bound scope.names name (next_value scope); values = scope.values ++ ty ∷ []; roles = scope.roles ++ role ∷ [] }

abbrev pub type_at : List Ty → ValueId → Option Ty
type_at values value = slice_get values value.0

-- a value may be a dimension of a map
abbrev pub is_dimension_role : Option Role → Bool
is_dimension_role (Some Dimension) = true
is_dimension_role _ = false

abbrev pub is_dimension : List Role → ValueId → Bool
is_dimension roles value = is_dimension_role (slice_get roles value.0)

-- the type that is written of a value, if any, is the value's
abbrev pub agrees_at : List Ty → Option TypeText → ValueId → Bool
agrees_at values written value = option_map_or (agrees written) (type_at values value) false
