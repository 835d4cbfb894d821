-- Properties and attributes: one list of entries, in which the first of a name counts.
use Rattle.std.specs.Prelude.{ℕ, ◌+◌, ◌^◌, ◌==◌, ℤ, pos, int_le, int_lt, unsigned_abs, Bool, true, false, not, ◌&&◌, ◌||◌, if◌then◌else◌, List, Option, Some, None, is_some, find, count_by, codes}
use Rattle.std.specs.List.{list_all, list_any}
use Rattle.std.specs.Option.{option_map, option_or, option_and_then}
use Rattle.std.specs.Str.{bytes_eq}
use Rattle.av_tree.specs.declared.attribute.Attr.{Attr}
use Rattle.av_tree.specs.declared.attribute.Attr.TheVariants.{Number, Map}
use Rattle.av_tree.specs.declared.attribute.Named.{Named, out-Named}
use Rattle.av_tree.specs.declared.node.Node.{Node, out-Node}
use Rattle.av_tree.specs.declared.written.MapText.{MapText}
use Rattle.av_tree.specs.declared.written.TypeText.{Scalar}
use Rattle.av_ir.specs.declared.module.Marks.{Marks}
use Rattle.av_verify.specs.declared.rows.Row.{Row}
use Rattle.av_verify.specs.declared.rows.Row.TheVariants.{Loop}
use Rattle.av_verify.specs.Rows.{mark_name, property_names}

-- whether an entry has this name
abbrev pub is_entry : List ℕ → Named → Bool
is_entry name e = bytes_eq (out-Named e).name name

-- the value of the first entry of this name
abbrev pub first_of : List ℕ → List Named → Option Attr
first_of name entries = option_map (λ e. (out-Named e).value) (find (is_entry name) entries)

-- the value of an operation's entry of this name: properties come before attributes
abbrev pub entry_of : List ℕ → Node → Option Attr
entry_of name node = option_or (first_of name (out-Node node).properties) (first_of name (out-Node node).attrs)

-- the number of an entry, of whatever type
abbrev pub number_of : Option Attr → Option ℤ
number_of (Some (Number value ty)) = Some value
number_of _ = None

-- the map of an entry, written out
abbrev pub map_of : Option Attr → Option MapText
map_of (Some (Map m)) = Some m
map_of _ = None

-- a number from 0 to 2 ^ 64 - 1
abbrev pub small_number : ℤ → Option ℕ
small_number z = if int_le (pos 0) z && int_lt z (pos (2 ^ 64)) then Some (unsigned_abs z) else None

-- the number of a mark: one of type i64, from 0 to 2 ^ 64 - 1
abbrev pub mark_number_of : Attr → Option ℕ
mark_number_of (Number value (Scalar name)) = if bytes_eq name (codes "i64") then small_number value else None
mark_number_of _ = None

-- ---- the entries that count
-- an entry that is read and dropped on every operation, however often it stands; nothing asks its value
abbrev pub is_dropped : Named → Bool
is_dropped e = is_entry (codes "overflowFlags") e

-- the mark that the operation may have, with a number
abbrev pub is_mark : Row → Named → Bool
is_mark row e = is_entry (mark_name row) e && is_some (mark_number_of (out-Named e).value)

-- an entry counts unless it is such a mark or is dropped
abbrev pub counts : Row → Named → Bool
counts row e = not (is_mark row e) && not (is_dropped e)

-- how many entries of an operation count, properties and attributes together
abbrev pub counted : Row → Node → ℕ
counted row node = count_by (counts row) (out-Node node).properties + count_by (counts row) (out-Node node).attrs

-- ---- what is asked of entries
-- the operation has one entry of this name
abbrev pub is_once : List ℕ → Node → Bool
is_once name node = count_by (is_entry name) (out-Node node).properties + count_by (is_entry name) (out-Node node).attrs == 1

-- an entry is a property of the operation, or is dropped, or has a dot in its name: a mark, or another attribute that is dropped
abbrev pub is_property : Row → List ℕ → Bool
is_property row name = list_any (λ property. bytes_eq property name) (property_names row)

abbrev pub is_known : Row → Named → Bool
is_known row e = is_property row (out-Named e).name || is_dropped e || list_any (λ byte. byte == 46) (out-Named e).name

-- the operation's mark, if it stands, stands once and is a number
abbrev pub is_good_mark : Bool → Option Attr → Bool
is_good_mark once (Some value) = is_some (mark_number_of value) && once
is_good_mark once None = true

-- all properties that the operation needs are there
abbrev pub has_needed : Row → Node → Bool
has_needed row node = list_all (λ name. is_some (entry_of name node)) (property_names row)

-- each property stands once, each entry is known, and the mark is good
abbrev pub has_good_entries : Row → Node → Bool
has_good_entries row node =
    list_all (λ name. is_once name node) (property_names row)
    && list_all (is_known row) (out-Node node).properties && list_all (is_known row) (out-Node node).attrs
    && is_good_mark (is_once (mark_name row) node) (entry_of (mark_name row) node)

-- what the marks of a loop say, and of an access
abbrev pub marked : Row → Option ℕ → Marks
marked Loop number = record { loop_no = number; source = None; distinct = false }
marked _ number = record { loop_no = None; source = number; distinct = false }

abbrev pub marks_of : Row → Node → Marks
marks_of row node = marked row (option_and_then mark_number_of (entry_of (mark_name row) node))
