-- How many operands and results an operation has to have, and which names it may use and define.
use Rattle.std.specs.Prelude.{ℕ, ◌+◌, ◌==◌, nat_le, Bool, true, false, not, ◌&&◌, ◌||◌, List, [], ◌∷◌, length, map, slice_get, Option, Some, None}
use Rattle.std.specs.List.{list_all, list_any}
use Rattle.std.specs.Option.{option_and_then, option_flatten, option_map_or}
use Rattle.av_signatures.specs.declared.signature.Count.{Count}
use Rattle.av_signatures.specs.declared.signature.Count.TheVariants as count
use Rattle.av_signatures.specs.declared.signature.Place.{Place}
use Rattle.av_signatures.specs.declared.signature.Place.TheVariants as place
use Rattle.av_signatures.specs.declared.signature.Role.{Role}
use Rattle.av_signatures.specs.declared.signature.Role.TheVariants as role
use Rattle.av_signatures.specs.declared.signature.Source.{Source}
use Rattle.av_signatures.specs.declared.signature.Source.TheVariants as source
use Rattle.av_tree.specs.declared.written.TypeText.{TypeText, MemRef, Vector}
use Rattle.av_rules.specs.Names.{count_in, count_named, differ, names_in}
use Rattle.av_rules.specs.Places.{Holder, Site}
use Rattle.av_rules.specs.Rows.{Row, ends_with}
use Rattle.av_rules.specs.Scopes.{Scope, is_visible}
use Rattle.av_rules.specs.Sites.{held_by, outside}
use Rattle.av_rules.specs.Typing.{carried_count}
use Rattle.av_rules.specs.Views.{fields, inside}

-- ---- operands
abbrev pub operand_count : Site → ℕ
operand_count site = length (fields site.node).operands

-- how many sizes a written type has; nothing where it is no type with sizes, as a vector without any is none
abbrev pub sizes_written : TypeText → Option ℕ
sizes_written (MemRef sizes elem layout) = Some (length sizes)
sizes_written (Vector [] elem) = None
sizes_written (Vector (d ∷ dims) elem) = Some (length (d ∷ dims))
sizes_written _ = None

abbrev pub written_at : Site → Place → Option TypeText
written_at site (place.Operand k) = option_flatten (slice_get (fields site.node).in_types k)
written_at site (place.FromEnd k) = None
written_at site place.Result = option_flatten (slice_get (fields site.node).out_types 0)

abbrev pub counts : Site → Count → Bool
counts site (count.Exactly n) = operand_count site == n
counts site (count.Between a b) = nat_le a (operand_count site) && nat_le (operand_count site) b
counts site (count.AtLeast n) = nat_le n (operand_count site)
counts site (count.PerSize p n) =
    option_map_or (λ sizes. operand_count site == sizes + n) (option_and_then sizes_written (written_at site p)) (nat_le n (operand_count site))

-- ---- terminators
-- it ends the region that it stands in
abbrev pub is_end_of_holder : Role → Holder → Bool
is_end_of_holder (role.Ends e) holder = option_map_or (λ (row : Row). ends_with e row.role) holder.row false
is_end_of_holder _ holder = false

-- a terminator in its place: the last operation of a region of an operation that it ends
abbrev pub is_in_place : Row → Site → Bool
is_in_place row site = site.is_last && option_map_or (is_end_of_holder row.role) site.holder false

-- a terminator in its place has as many operands as are handed on, where that is known
abbrev pub hands_on_enough : Row → Site → Bool
hands_on_enough row site =
    not (is_in_place row site)
    || option_map_or (λ (h : Holder). option_map_or (λ types. operand_count site == length types) h.hands_on true) site.holder true

abbrev pub has_operands : Row → Site → Bool
has_operands row site = counts site row.operands && hands_on_enough row site

-- ---- results
-- how many results the operation has, where that is known: those of the source of its results' types
abbrev pub count_from : Row → Site → Source → Option ℕ
count_from row site source.Nothing = Some 0
count_from row site source.AllWritten = Some (length (fields site.node).out_types)
count_from row site source.Carried = carried_count row site
count_from row site s = Some 1

-- so many are named, or, where their number isn't known, no more than there are operands; and no text names none
abbrev pub has_results : Row → Site → Bool
has_results row site =
    option_map_or (λ n. count_in (fields site.node).results == n) (count_from row site row.source)
    (nat_le (count_in (fields site.node).results) (operand_count site))
    && list_all (λ text. not (count_named text == 0)) (fields site.node).results

-- ---- names
abbrev pub sees_operands : Site → Bool
sees_operands site = list_all (is_visible site.scope) (fields site.node).operands

-- names differ from each other and from those that are visible
abbrev pub are_new : Scope → List (List ℕ) → Bool
are_new scope names = differ names && not (list_any (is_visible scope) names)

-- the names of the results, and of the arguments of each region
abbrev pub names_new : Site → Bool
names_new site =
    are_new site.scope (names_in (fields site.node).results)
    && list_all (λ body. are_new (outside (held_by site) site.scope) (map (λ arg. arg.name) (inside body).args)) (fields site.node).regions
