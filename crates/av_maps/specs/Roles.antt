-- Which values may be dimensions and symbols of maps and sets.
use Rattle.std.specs.Prelude.{ℕ, Bool, true, false, ◌&&◌, if◌then◌else◌, List, take, drop}
use Rattle.std.specs.List.{list_all}
use Rattle.av_maps.specs.declared.roles.Role.{Role}
use Rattle.av_maps.specs.declared.roles.Role.TheVariants as role

abbrev pub may_be_symbol : Role → Bool
may_be_symbol role.Symbol = true
may_be_symbol _ = false

-- a symbol may be a dimension too
abbrev pub may_be_dimension : Role → Bool
may_be_dimension role.Plain = false
may_be_dimension _ = true

-- the operands of a map with so many dimensions, as they are written: those of the dimensions stand first
abbrev pub are_in_place : ℕ → List Role → Bool
are_in_place dims roles = list_all may_be_dimension (take dims roles) && list_all may_be_symbol (drop dims roles)

-- what the result of an `affine.apply` may be: a symbol where all operands may be one, also where there is none
abbrev pub applied_role : List Role → Role
applied_role roles = if list_all may_be_symbol roles then role.Symbol else role.Dimension
