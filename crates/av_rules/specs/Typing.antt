-- The types of an operation's results, and the types at its places.
use Rattle.std.specs.Prelude.{ℕ, ◌+◌, ◌-◌, nat_le, nat_lt, ℤ, Bool, true, false, if◌then◌else◌, List, [], ◌∷◌, length, map, take, drop, slice_get, Option, Some, None, codes}
use Rattle.std.specs.List.{list_any}
use Rattle.std.specs.Option.{option_and_then, option_map, option_flatten}
use Rattle.av_bits.specs.declared.types.Width.TheVariants.{W1}
use Rattle.av_ir.specs.declared.ty.Elem.TheVariants.{Index, Int}
use Rattle.av_ir.specs.declared.ty.Ty.{Ty}
use Rattle.av_ir.specs.declared.ty.Ty.TheVariants as ty
use Rattle.av_signatures.specs.declared.signature.Form.{Form}
use Rattle.av_signatures.specs.declared.signature.Form.TheVariants as form
use Rattle.av_signatures.specs.declared.signature.Place.{Place}
use Rattle.av_signatures.specs.declared.signature.Place.TheVariants as place
use Rattle.av_signatures.specs.declared.signature.Source.{Source}
use Rattle.av_signatures.specs.declared.signature.Source.TheVariants as source
use Rattle.av_signatures.specs.Rows.{Property}
use Rattle.av_signatures.specs.TableLaws.{least}
use Rattle.av_tree.specs.declared.attribute.Attr.{Attr}
use Rattle.av_tree.specs.declared.attribute.Attr.TheVariants as value
use Rattle.av_tree.specs.declared.written.TypeText.{TypeText}
use Rattle.av_types.specs.Texts.{is_type}
use Rattle.av_types.specs.Types.{named_type}
use Rattle.av_types.specs.Relations.{element_of, part_of, rank_of, truths_of}
use Rattle.av_rules.specs.Entries.{Segments, entry_of, numbers_of, segments_of}
use Rattle.av_rules.specs.Places.{Site, operand_types}
use Rattle.av_rules.specs.Rows.{Row}
use Rattle.av_rules.specs.Views.{fields}

-- the type that is written, within its limits or not
abbrev pub spelled : TypeText → Option Ty
spelled t = if is_type t then named_type t else None

-- `index`
abbrev pub index_type : Ty
index_type = ty.Scalar Index

-- the type at a place of a list, where it is known
abbrev pub type_in : List (Option Ty) → ℕ → Option Ty
type_in types k = option_flatten (slice_get types k)

-- `true` and `false` are of type i1, which isn't written with them
abbrev pub own_type : Option Attr → Option Ty
own_type (Some (value.Bool b)) = Some (ty.Scalar (Int W1))
own_type _ = None

abbrev pub written_or : Option Ty → Option TypeText → Option Ty
written_or other (Some t) = spelled t
written_or other None = other

-- the type of an operand, as found; of the result, as written, or as its value says
abbrev pub written_result : Site → ℕ → Option Ty
written_result site k =
    written_or (own_type (entry_of (codes "value") site.node)) (option_flatten (slice_get (fields site.node).out_types k))

abbrev pub type_at : Site → Place → Option Ty
type_at site (place.Operand k) = type_in (operand_types site) k
type_at site (place.FromEnd k) =
    if nat_lt k (length (operand_types site)) then type_in (operand_types site) (length (operand_types site) - (k + 1)) else None
type_at site place.Result = written_result site 0

-- ---- carried values
abbrev pub is_segments : Form → Bool
is_segments form.Segments = true
is_segments _ = false

-- a loop whose operands are parted by a property
abbrev pub has_segments : Row → Bool
has_segments row = list_any (λ (p : Property). is_segments p.form) row.properties

-- how many values a loop carries: the third of its parts, where they can be read; else the operands behind those that it needs
abbrev pub carried_count : Row → Site → Option ℕ
carried_count row site =
    if has_segments row then option_map (λ s. s.carried) (segments_of site.node)
    else Some (length (operand_types site) - least row.operands)

-- the types of their first values, where there are as many operands as the parts say
abbrev pub types_in_parts : List (Option Ty) → Segments → Option (List (Option Ty))
types_in_parts types s =
    if nat_le (s.lower + s.upper + s.carried) (length types) then Some (take s.carried (drop (s.lower + s.upper) types)) else None

abbrev pub carried_types : Row → Site → Option (List (Option Ty))
carried_types row site =
    if has_segments row then option_and_then (types_in_parts (operand_types site)) (segments_of site.node)
    else Some (drop (least row.operands) (operand_types site))

-- ---- results
-- what is left of a vector at as many positions as are written
abbrev pub part_at : Option Ty → Option (List ℤ) → Option Ty
part_at (Some t) (Some numbers) = if nat_le (length numbers) (rank_of t) then Some (part_of t (length numbers)) else None
part_at _ _ = None

-- as many elements as are picked
abbrev pub picked_at : Option Ty → Option (List ℤ) → Option Ty
picked_at (Some t) (Some numbers) = Some (ty.Vector (record { sizes = length numbers ∷ []; scalable = false }) (element_of t))
picked_at _ _ = None

-- the type of one result, where it is known
abbrev pub result_type : Site → Source → Option Ty
result_type site source.Nothing = None
result_type site source.AllWritten = None
result_type site source.Carried = None
result_type site source.Written = written_result site 0
result_type site source.Index = Some index_type
result_type site (source.Like p) = type_at site p
result_type site (source.Element p) = option_map (λ t. ty.Scalar (element_of t)) (type_at site p)
result_type site (source.TruthLike p) = option_map truths_of (type_at site p)
result_type site (source.Part p) = part_at (type_at site p) (numbers_of (codes "static_position") site.node)
result_type site (source.Picked p) = picked_at (type_at site p) (numbers_of (codes "mask") site.node)

-- the types of all results, where their number is known
abbrev pub types_from : Row → Site → Source → Option (List (Option Ty))
types_from row site source.Nothing = Some []
types_from row site source.AllWritten = Some (map (λ t. option_and_then spelled t) (fields site.node).out_types)
types_from row site source.Carried = carried_types row site
types_from row site s = Some (result_type site s ∷ [])

abbrev pub result_types : Row → Site → Option (List (Option Ty))
result_types row site = types_from row site row.source
