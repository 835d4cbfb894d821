-- Limits of types and of regions, the mode, the place of an operation, and the size of a module.
use Rattle.std.specs.Prelude.{ℕ, ◌+◌, ◌*◌, ◌==◌, nat_le, nat_lt, Bool, true, false, not, ◌&&◌, ◌||◌, if◌then◌else◌, List, [], ◌∷◌, length, map, Option, Some, None, unwrap_or, codes}
use Rattle.std.specs.List.{flat_map, list_all, list_any}
use Rattle.std.specs.Option.{option_and_then, option_map_or}
use Rattle.av_ir.specs.declared.ty.Ty.{Ty}
use Rattle.av_ir.specs.declared.ty.Ty.TheVariants as ty
use Rattle.av_signatures.specs.declared.signature.Count.TheVariants as count
use Rattle.av_signatures.specs.declared.signature.Mark.TheVariants as mark
use Rattle.av_signatures.specs.declared.signature.Role.TheVariants as role
use Rattle.av_signatures.specs.declared.signature.Source.TheVariants as source
use Rattle.av_shapes.specs.Shape.{product}
use Rattle.av_tree.specs.declared.written.DimText.{DimText}
use Rattle.av_tree.specs.declared.written.DimText.TheVariants as dim
use Rattle.av_tree.specs.declared.written.TypeText.{TypeText, MemRef, Vector}
use Rattle.av_types.specs.Texts.{is_trailing, is_vector_text, is_within_limits, size_of}
use Rattle.av_rules.specs.declared.mode.Mode.{Mode}
use Rattle.av_rules.specs.declared.mode.Mode.TheVariants as mode
use Rattle.av_rules.specs.Agreement.{if_known, results_known, types_of_arguments, types_written}
use Rattle.av_rules.specs.Entries.{entry_of, function_of}
use Rattle.av_rules.specs.Names.{is_among}
use Rattle.av_rules.specs.Places.{Holder, Site, site_row}
use Rattle.av_rules.specs.Properties.{is_few}
use Rattle.av_rules.specs.Rows.{Row, is_function, is_module, is_of_scalar_mode}
use Rattle.av_rules.specs.Sites.{function_name}
use Rattle.av_rules.specs.Views.{Function, fields}

-- ---- names of functions
abbrev pub is_new_function : Row → Site → Bool
is_new_function row site = not (is_function row.role) || option_map_or (λ name. not (is_among site.earlier name)) (function_name site.node) true

-- ---- limits
-- a vector has at most 3 sizes, and 256 lanes at scale 1
abbrev pub is_limited : Ty → Bool
is_limited (ty.Vector shape elem) = nat_le (length shape.sizes) 3 && nat_le (product shape.sizes) 256
is_limited t = true

-- the regions that may be nested, that of the module included
abbrev pub most_regions : Mode → ℕ
most_regions (mode.Scalar shape) = 32
most_regions _ = 40

abbrev pub has_room : Site → Bool
has_room site = (length (fields site.node).regions == 0) || nat_le (site.depth + 1) (most_regions site.mode)

abbrev pub is_within : Row → Site → Bool
is_within row site =
    list_all is_within_limits (types_written row site) && list_all (if_known is_limited) (results_known row site) && is_few row site && has_room site

-- ---- the mode
-- the mode takes the type as it is written: no vector, or one of at most one size, or any
abbrev pub takes_type : Mode → TypeText → Bool
takes_type (mode.Scalar shape) t = not (is_vector_text t)
takes_type mode.Run (Vector dims elem) = nat_le (length dims) 1
takes_type _ t = true

-- the same of a type that isn't written
abbrev pub takes_result : Mode → Ty → Bool
takes_result (mode.Scalar shape) (ty.Vector sizes elem) = false
takes_result mode.Run (ty.Vector sizes elem) = nat_le (length sizes.sizes) 1
takes_result _ t = true

abbrev pub takes_operation : Mode → Row → Bool
takes_operation (mode.Scalar shape) row = is_of_scalar_mode row
takes_operation _ row = true

-- ---- the place
-- the module alone is in nothing, functions are in a module, and all else is in something else
abbrev pub may_stand_in : Row → Option Holder → Bool
may_stand_in row None = is_module row.role
may_stand_in row (Some holder) = if option_map_or (λ (r : Row). is_module r.role) holder.row false then is_function row.role else not (is_function row.role || is_module row.role)

-- a function's arguments are no vectors, and its results are scalars
abbrev pub is_memref_text : TypeText → Bool
is_memref_text (MemRef sizes elem layout) = true
is_memref_text _ = false

abbrev pub has_plain_types : Function → Bool
has_plain_types f = not (list_any is_vector_text f.inputs) && not (list_any (λ t. is_vector_text t || is_memref_text t) f.results)

abbrev pub has_function_types : Row → Site → Bool
has_function_types row site =
    not (is_function row.role)
    || (not (list_any is_vector_text (types_of_arguments site))
    && option_map_or has_plain_types (option_and_then function_of (entry_of (codes "function_type") site.node)) true)

abbrev pub may_stand : Row → Site → Bool
may_stand row site =
    takes_operation site.mode row && list_all (takes_type site.mode) (types_written row site)
    && list_all (if_known (takes_result site.mode)) (results_known row site) && may_stand_in row site.holder && has_function_types row site

-- ---- scalable dimensions
abbrev pub is_trailed : Row → Site → Bool
is_trailed row site = list_all is_trailing (types_written row site)

-- ---- the size of a module
-- the lanes of a written type at scale 1, in which `?` counts one; one where it is no vector
abbrev pub counted : DimText → ℕ
counted dim.Dynamic = 1
counted d = size_of d

abbrev pub lanes_of : TypeText → ℕ
lanes_of (Vector dims elem) = product (map counted dims)
lanes_of t = 1

abbrev pub greater : ℕ → ℕ → ℕ
greater m n = if nat_lt n m then m else n

abbrev pub greatest : List ℕ → ℕ
greatest [] = 1
greatest (n ∷ ns) = greater n (greatest ns)

-- an operation whose name isn't known has no property and no mark
abbrev pub unknown_row : Row
unknown_row = record { name = []; operands = count.AtLeast 0; source = source.Nothing; properties = []; demands = []; role = role.Plain; mark = mark.None }

-- the most lanes of a type that stands in a tree, but in what is dropped
abbrev pub most_lanes : List Site → ℕ
most_lanes all = greatest (flat_map (λ site. map lanes_of (types_written (unwrap_or (site_row site) unknown_row) site)) all)

-- the operations times the lanes are at most 2 ^ 19; the lanes are those of the shape, or the most of a type. What is run is of any size
abbrev pub is_small : List Site → Mode → Bool
is_small all (mode.Scalar shape) = nat_le (length all * product shape.sizes) 0x8_0000
is_small all mode.Vector = nat_le (length all * most_lanes all) 0x8_0000
is_small all mode.Run = true
