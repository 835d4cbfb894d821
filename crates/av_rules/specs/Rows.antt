-- What is asked of the operation of a name, as one record.
use Rattle.std.specs.Prelude.{ℕ, Bool, true, false, if◌then◌else◌, List, map, find, Option}
use Rattle.std.specs.List.{list_any}
use Rattle.std.specs.Str.{bytes_eq}
use Rattle.av_dialects.specs.declared.item.Mode.{Mode as Level}
use Rattle.av_dialects.specs.declared.item.Mode.TheVariants as level
use Rattle.av_dialects.specs.declared.rows.TheConstants.{ROWS}
use Rattle.av_signatures.specs.declared.rows.TheConstants.{SIGNATURES}
use Rattle.av_signatures.specs.declared.signature.Arguments.{Arguments}
use Rattle.av_signatures.specs.declared.signature.Arguments.TheVariants as arguments
use Rattle.av_signatures.specs.declared.signature.Count.{Count}
use Rattle.av_signatures.specs.declared.signature.Demand.{Demand}
use Rattle.av_signatures.specs.declared.signature.Ending.{Ending}
use Rattle.av_signatures.specs.declared.signature.Ending.TheVariants as ending
use Rattle.av_signatures.specs.declared.signature.Mark.{Mark}
use Rattle.av_signatures.specs.declared.signature.Role.{Role}
use Rattle.av_signatures.specs.declared.signature.Role.TheVariants as role
use Rattle.av_signatures.specs.declared.signature.Source.{Source}
use Rattle.av_signatures.specs.Rows.{Property, property}

-- a row of the table of signatures
pub record Row : Type 0 where
  pub name : List ℕ
  pub operands : Count
  pub source : Source
  pub properties : List Property
  pub demands : List Demand
  pub role : Role
  pub mark : Mark

unfoldable pub rows : List Row
rows =
    map (λ row. record {
      name = row.0.now;
      operands = row.1;
      source = row.2;
      properties = map (λ p. property p.0.now p.1) row.3.now;
      demands = row.4.now;
      role = row.5;
      mark = row.6;
    }) SIGNATURES.now

-- the row of a name, if the name is known
abbrev pub row_of : List ℕ → Option Row
row_of name = find (λ row. bytes_eq row.name name) rows

-- the names of the operations that Scalar mode takes
abbrev pub is_scalar_level : Level → Bool
is_scalar_level level.Scalar = true
is_scalar_level _ = false

unfoldable pub is_of_scalar_mode : Row → Bool
is_of_scalar_mode row = list_any (λ r. if bytes_eq r.0.now row.name then is_scalar_level r.1 else false) ROWS.now

-- ---- roles
abbrev pub is_module : Role → Bool
is_module role.Module = true
is_module _ = false

-- a function: what has a function type's inputs as arguments
abbrev pub has_inputs : Arguments → Bool
has_inputs arguments.Inputs = true
has_inputs _ = false

abbrev pub is_function : Role → Bool
is_function (role.Holds count args e) = has_inputs args
is_function _ = false

-- two endings are the same
abbrev pub same_ending : Ending → Ending → Bool
same_ending ending.Return ending.Return = true
same_ending ending.AffineYield ending.AffineYield = true
same_ending ending.ScfYield ending.ScfYield = true
same_ending _ _ = false

-- the operation ends a region of this ending
abbrev pub is_end_of : Ending → Role → Bool
is_end_of e (role.Ends f) = same_ending e f
is_end_of e _ = false

-- the regions of the operation end so
abbrev pub ends_with : Ending → Role → Bool
ends_with e (role.Holds count args f) = same_ending e f
ends_with e _ = false

-- how many regions the operation has
abbrev pub region_count : Role → ℕ
region_count role.Module = 1
region_count (role.Holds count args e) = count
region_count _ = 0
