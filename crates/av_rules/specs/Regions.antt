-- The regions of an operation: how many there are, with how many arguments, and how they end.
use Rattle.std.specs.Prelude.{◌==◌, Bool, true, false, not, ◌&&◌, ◌||◌, List, length, Option, None}
use Rattle.std.specs.List.{last_or, list_all}
use Rattle.std.specs.Option.{option_map_or}
use Rattle.av_signatures.specs.declared.signature.Ending.{Ending}
use Rattle.av_signatures.specs.declared.signature.Role.{Role}
use Rattle.av_signatures.specs.declared.signature.Role.TheVariants as role
use Rattle.av_tree.specs.declared.node.Node.{Node}
use Rattle.av_rules.specs.Agreement.{argument_types}
use Rattle.av_rules.specs.Counts.{is_in_place}
use Rattle.av_rules.specs.Places.{Site}
use Rattle.av_rules.specs.Rows.{Row, is_end_of, region_count, row_of}
use Rattle.av_rules.specs.Views.{fields, inside}

-- ---- endings
-- an operation that ends a region of this ending
abbrev pub is_terminator : Ending → Node → Bool
is_terminator e node = option_map_or (λ (row : Row). is_end_of e row.role) (row_of (fields node).name) false

abbrev pub last_of : List Node → Option Node
last_of nodes = last_or None nodes

-- each region of such an operation ends with its own kind of terminator
abbrev pub regions_end : Site → Role → Bool
regions_end site (role.Holds n args e) = list_all (λ body. option_map_or (is_terminator e) (last_of (inside body).nodes) false) (fields site.node).regions
regions_end site _ = true

abbrev pub is_end : Role → Bool
is_end (role.Ends e) = true
is_end _ = false

-- and a terminator stands where it ends something
abbrev pub ends_well : Row → Site → Bool
ends_well row site = regions_end site row.role && (not (is_end row.role) || is_in_place row site)

-- ---- numbers
-- as many regions, each with as many arguments, where their number is known
abbrev pub has_regions : Row → Site → Bool
has_regions row site =
    (length (fields site.node).regions == region_count row.role)
    && list_all (λ body. option_map_or (λ types. length (inside body).args == length types) (argument_types row site row.role) true) (fields site.node).regions
