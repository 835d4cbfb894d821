-- Properties: those that are needed, their form, the arity of maps and lists, steps, and what maps are made of.
use Rattle.std.specs.Prelude.{ℕ, ◌+◌, ◌^◌, ◌==◌, nat_le, nat_lt, ℤ, pos, int_le, int_lt, Bool, true, false, not, ◌&&◌, ◌||◌, List, length, map, take, drop, Option, Some, is_some, unwrap_or, codes, count_by}
use Rattle.std.specs.List.{list_all}
use Rattle.std.specs.Option.{option_and_then, option_map_or}
use Rattle.av_ir.specs.declared.ty.Ty.{Ty}
use Rattle.av_maps.specs.declared.roles.Role.{Role}
use Rattle.av_maps.specs.Asked.{has_few_results, has_few_rows, is_affine_map, is_affine_set, set_takes, takes}
use Rattle.av_maps.specs.Names.{map_in, set_in}
use Rattle.av_maps.specs.Roles.{are_in_place}
use Rattle.av_maps.specs.Written.{map_of, set_of}
use Rattle.av_signatures.specs.declared.signature.Amount.{Amount}
use Rattle.av_signatures.specs.declared.signature.Amount.TheVariants as amount
use Rattle.av_signatures.specs.declared.signature.Demand.{Demand}
use Rattle.av_signatures.specs.declared.signature.Demand.TheVariants as demand
use Rattle.av_signatures.specs.declared.signature.Form.{Form}
use Rattle.av_signatures.specs.declared.signature.Form.TheVariants as form
use Rattle.av_signatures.specs.declared.signature.Segment.TheVariants as segment
use Rattle.av_signatures.specs.declared.signature.Uses.{Uses}
use Rattle.av_signatures.specs.declared.signature.Uses.TheVariants as uses
use Rattle.av_signatures.specs.Rows.{Property}
use Rattle.av_tree.specs.declared.attribute.Named.{Named}
use Rattle.av_tree.specs.declared.written.MapText.{MapText}
use Rattle.av_tree.specs.declared.written.SetText.{SetText}
use Rattle.av_types.specs.Relations.{rank_of}
use Rattle.av_rules.specs.Entries.{Segments, entry_of, is_entry, is_good, kept, number_of, numbers_of, segments_of}
use Rattle.av_rules.specs.Places.{Site}
use Rattle.av_rules.specs.Rows.{Row}
use Rattle.av_rules.specs.Scopes.{role_named}
use Rattle.av_rules.specs.Typing.{has_segments, type_at}
use Rattle.av_rules.specs.Views.{fields}

-- ---- what stands at the operation
abbrev pub has_needed : Row → Site → Bool
has_needed row site = list_all (λ (p : Property). is_some (entry_of p.name site.node)) row.properties

-- the entry's name stands once
abbrev pub is_once : List Named → Named → Bool
is_once entries e = count_by (is_entry e.name) entries == 1

abbrev pub has_good_entries : Row → Site → Bool
has_good_entries row site =
    list_all (λ e. is_good site.aliases row e && is_once (kept row site.node) e) (kept row site.node)

-- ---- the operands of maps and sets
-- how many operands each part has, by what the property says; nothing where it can't be read
abbrev pub parts : Site → Segments
parts site = unwrap_or (segments_of site.node) (record { lower = 0; upper = 0; carried = 0 })

-- the operands that a map takes
abbrev pub used_by : Site → Uses → List (List ℕ)
used_by site (uses.From k) = drop k (fields site.node).operands
used_by site (uses.Segment segment.Lower) = take (parts site).lower (fields site.node).operands
used_by site (uses.Segment segment.Upper) = take (parts site).upper (drop (parts site).lower (fields site.node).operands)

-- the three parts are all operands
abbrev pub are_parted : Row → Site → Bool
are_parted row site =
    not (has_segments row)
    || option_map_or (λ (s : Segments). s.lower + s.upper + s.carried == length (fields site.node).operands) (segments_of site.node) false

-- as many results as there have to be
abbrev pub is_amount : Site → Amount → ℕ → Bool
is_amount site amount.One n = n == 1
is_amount site amount.AtLeastOne n = nat_lt 0 n
is_amount site (amount.PerSize p) n = option_map_or (λ t. n == rank_of t) (type_at site p) true

-- what is asked of a property's map, or of its set, where it is one
abbrev pub of_map : Site → Property → (MapText → Bool) → Bool
of_map site p asks = option_map_or asks (option_and_then (map_in site.aliases) (entry_of p.name site.node)) true

abbrev pub of_set : Site → Property → (SetText → Bool) → Bool
of_set site p asks = option_map_or asks (option_and_then (set_in site.aliases) (entry_of p.name site.node)) true

-- ---- arity
-- a parameter for each operand, and the right number of results
abbrev pub has_arity_of : Site → Property → Form → Bool
has_arity_of site p (form.Map u a) = of_map site p (λ m. takes (map_of m) (length (used_by site u)) && is_amount site a (length m.results))
has_arity_of site p (form.Set u) = of_set site p (λ s. set_takes (set_of s) (length (used_by site u)))
has_arity_of site p _ = true

-- a position has no more numbers than its vector has sizes
abbrev pub is_short : Option (List ℤ) → Option Ty → Bool
is_short (Some numbers) (Some t) = nat_le (length numbers) (rank_of t)
is_short _ _ = true

abbrev pub asks_arity : Site → Demand → Bool
asks_arity site (demand.ShortPosition p) = is_short (numbers_of (codes "static_position") site.node) (type_at site p)
asks_arity site _ = true

abbrev pub has_arity : Row → Site → Bool
has_arity row site =
    are_parted row site && list_all (λ (p : Property). has_arity_of site p p.form) row.properties && list_all (asks_arity site) row.demands

-- ---- dimensions and symbols
abbrev pub roles_of : Site → List (List ℕ) → List Role
roles_of site names = map (role_named site.scope) names

abbrev pub has_roles_of : Site → Property → Form → Bool
has_roles_of site p (form.Map u a) = of_map site p (λ m. are_in_place (length m.dims) (roles_of site (used_by site u)))
has_roles_of site p (form.Set u) = of_set site p (λ s. are_in_place (length s.dims) (roles_of site (used_by site u)))
has_roles_of site p _ = true

abbrev pub has_roles : Row → Site → Bool
has_roles row site = list_all (λ (p : Property). has_roles_of site p p.form) row.properties

-- ---- expressions and their numbers
abbrev pub is_affine_of : Site → Property → Form → Bool
is_affine_of site p (form.Map u a) = of_map site p is_affine_map
is_affine_of site p (form.Set u) = of_set site p is_affine_set
is_affine_of site p _ = true

abbrev pub is_affine : Row → Site → Bool
is_affine row site = list_all (λ (p : Property). is_affine_of site p p.form) row.properties

-- at most 8 results, and at most 64 rows
abbrev pub is_few_of : Site → Property → Form → Bool
is_few_of site p (form.Map u a) = of_map site p (λ m. has_few_results (map_of m))
is_few_of site p (form.Set u) = of_set site p (λ s. has_few_rows (set_of s))
is_few_of site p _ = true

abbrev pub is_few : Row → Site → Bool
is_few row site = list_all (λ (p : Property). is_few_of site p p.form) row.properties

-- ---- steps
-- from 1 to 2 ^ 31 - 1
abbrev pub is_step : ℤ → Bool
is_step n = int_le (pos 1) n && int_lt n (pos (2 ^ 31))

abbrev pub steps_of : Site → Property → Form → Bool
steps_of site p form.Step = option_map_or is_step (option_and_then (number_of (codes "index")) (entry_of p.name site.node)) true
steps_of site p _ = true

abbrev pub steps : Row → Site → Bool
steps row site = list_all (λ (p : Property). steps_of site p p.form) row.properties
