-- The values that are visible at an operation.
use Rattle.std.specs.Prelude.{ℕ, Bool, List, find, Option, is_some}
use Rattle.std.specs.Option.{option_and_then, option_map_or}
use Rattle.std.specs.Str.{bytes_eq}
use Rattle.av_ir.specs.declared.ty.Ty.{Ty}
use Rattle.av_maps.specs.declared.roles.Role.{Role}
use Rattle.av_maps.specs.declared.roles.Role.TheVariants.{Plain}

-- a name that can be used, with the type of its value where that is known, and whether it can be a symbol or a dimension of a map
pub record Visible : Type 0 where
  pub name : List ℕ
  pub ty : Option Ty
  pub role : Role

-- the last that were defined come first
abbrev pub Scope : Type 0
Scope = List Visible

abbrev pub found : Scope → List ℕ → Option Visible
found scope name = find (λ v. bytes_eq v.name name) scope

abbrev pub is_visible : Scope → List ℕ → Bool
is_visible scope name = is_some (found scope name)

abbrev pub type_named : Scope → List ℕ → Option Ty
type_named scope name = option_and_then (λ v. v.ty) (found scope name)

-- a name that isn't visible is neither
abbrev pub role_named : Scope → List ℕ → Role
role_named scope name = option_map_or (λ v. v.role) (found scope name) Plain
