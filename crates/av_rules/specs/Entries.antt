-- Properties and attributes: one list of entries. Which are read and dropped, and what the others say.
use Rattle.std.specs.Prelude.{ℕ, ◌^◌, ◌==◌, ℤ, pos, int_le, int_lt, unsigned_abs, Bool, true, false, not, ◌&&◌, ◌||◌, if◌then◌else◌, List, [], ◌∷◌, ◌++◌, length, map, Option, Some, None, is_some, find, codes}
use Rattle.std.specs.List.{filter, list_all, list_any}
use Rattle.std.specs.Option.{option_and_then, option_map, option_map_or}
use Rattle.std.specs.Char.{is_ascii_alphanumeric, is_ascii_digit}
use Rattle.std.specs.Str.{bytes_eq}
use Rattle.av_dialects.specs.Rows.{kinds, predicates}
use Rattle.av_signatures.specs.declared.signature.Form.{Form}
use Rattle.av_signatures.specs.declared.signature.Form.TheVariants as form
use Rattle.av_signatures.specs.declared.signature.Mark.{Mark}
use Rattle.av_signatures.specs.declared.signature.Mark.TheVariants as mark
use Rattle.av_signatures.specs.Rows.{Property, dropped, dropped_of_functions}
use Rattle.av_tree.specs.declared.attribute.Alias.{Alias}
use Rattle.av_tree.specs.declared.attribute.Attr.{Attr}
use Rattle.av_tree.specs.declared.attribute.Attr.TheVariants as attr
use Rattle.av_tree.specs.declared.attribute.Named.{Named}
use Rattle.av_tree.specs.declared.node.Node.{Node}
use Rattle.av_tree.specs.declared.written.TypeText.{TypeText, Scalar}
use Rattle.av_maps.specs.Names.{map_in, set_in}
use Rattle.av_rules.specs.Names.{is_among}
use Rattle.av_rules.specs.Rows.{Row, is_function, is_module}
use Rattle.av_rules.specs.Views.{Function, fields, function_in}

abbrev pub entries : Node → List Named
entries node = (fields node).properties ++ (fields node).attrs

abbrev pub is_entry : List ℕ → Named → Bool
is_entry name e = bytes_eq e.name name

-- the value of the first entry of this name
abbrev pub entry_of : List ℕ → Node → Option Attr
entry_of name node = option_map (λ e. e.value) (find (is_entry name) (entries node))

-- ---- what is dropped
abbrev pub mark_name : Mark → List ℕ
mark_name mark.None = []
mark_name mark.Loop = codes "affvec.loop"
mark_name mark.Source = codes "affvec.of"
mark_name mark.Distinct = codes "affvec.distinct"

abbrev pub has_dot : List ℕ → Bool
has_dot name = list_any (λ byte. byte == 46) name

-- all that a module has; some names everywhere, and one on functions; and a name with a dot that isn't the operation's mark
abbrev pub is_dropped : Row → List ℕ → Bool
is_dropped row name =
    is_module row.role || is_among dropped name || (is_function row.role && is_among dropped_of_functions name)
    || (has_dot name && not (bytes_eq name (mark_name row.mark)))

abbrev pub kept : Row → Node → List Named
kept row node = filter (λ e. not (is_dropped row e.name)) (entries node)

-- ---- values
-- the type is a scalar of this name
abbrev pub is_named : List ℕ → TypeText → Bool
is_named name (Scalar other) = bytes_eq name other
is_named name _ = false

-- the number of an entry of a type
abbrev pub number_of : List ℕ → Attr → Option ℤ
number_of name (attr.Number value ty) = if is_named name ty then Some value else None
number_of name _ = None

-- the numbers of an array of a type
abbrev pub array_of : List ℕ → Attr → Option (List ℤ)
array_of name (attr.Array elem numbers) = if is_named name elem then Some numbers else None
array_of name _ = None

-- a number from 0 on and below a limit
abbrev pub natural : ℕ → ℤ → Option ℕ
natural limit z = if int_le (pos 0) z && int_lt z (pos limit) then Some (unsigned_abs z) else None

-- the name in a text
abbrev pub text_of : Attr → Option (List ℕ)
text_of (attr.Quoted name) = Some name
text_of _ = None

-- the function type of an entry
abbrev pub function_of : Attr → Option Function
function_of (attr.«Type» ty) = function_in ty
function_of _ = None

-- ---- what a value has to be
-- a letter, a digit, or one of `$._-`
abbrev pub is_symbol_byte : ℕ → Bool
is_symbol_byte b = is_ascii_alphanumeric b || (b == 36) || (b == 46) || (b == 95) || (b == 45)

-- spelled as a symbol: digits alone, or another of these bytes and any of them
abbrev pub is_symbol_text : List ℕ → Bool
is_symbol_text [] = false
is_symbol_text (first ∷ rest) =
    is_symbol_byte first && list_all (λ b. if is_ascii_digit first then is_ascii_digit b else is_symbol_byte b) rest

abbrev pub is_constant : Attr → Bool
is_constant (attr.Number value ty) = true
is_constant (attr.Bool value) = true
is_constant (attr.Dense elements ty) = true
is_constant _ = false

-- `#vector.kind<word>`
abbrev pub is_one_among : List (List ℕ) → List (List ℕ) → Bool
is_one_among known (word ∷ []) = is_among known word
is_one_among known _ = false

abbrev pub is_kind : Attr → Bool
is_kind (attr.Hash name words) = bytes_eq name (codes "#vector.kind") && is_one_among kinds words
is_kind _ = false

abbrev pub has_form : List Alias → Form → Attr → Bool
has_form aliases form.Symbol value = option_map_or is_symbol_text (text_of value) false
has_form aliases form.FunctionType value = is_some (function_of value)
has_form aliases form.Constant value = is_constant value
has_form aliases form.Predicate value = is_some (option_and_then (natural (length predicates)) (number_of (codes "i64") value))
has_form aliases form.Kind value = is_kind value
has_form aliases form.Step value = is_some (number_of (codes "index") value)
has_form aliases form.Numbers value = is_some (array_of (codes "i64") value)
has_form aliases form.Segments value = is_some (array_of (codes "i32") value)
has_form aliases (form.Map uses amount) value = is_some (map_in aliases value)
has_form aliases (form.Set uses) value = is_some (set_in aliases value)

-- a unit, or a number of type i64 from 0 to 2 ^ 64 - 1
abbrev pub is_unit : Attr → Bool
is_unit attr.Unit = true
is_unit _ = false

abbrev pub is_mark_value : Mark → Attr → Bool
is_mark_value mark.None value = false
is_mark_value mark.Distinct value = is_unit value
is_mark_value _ value = is_some (option_and_then (natural (2 ^ 64)) (number_of (codes "i64") value))

-- the property of this name
abbrev pub property_named : Row → List ℕ → Option Property
property_named row name = find (λ (p : Property). bytes_eq p.name name) row.properties

-- an entry is a property in its form, or the mark with a value of its form
abbrev pub is_good : List Alias → Row → Named → Bool
is_good aliases row e =
    option_map_or (λ p. has_form aliases p.form e.value) (property_named row e.name)
    (bytes_eq e.name (mark_name row.mark) && is_mark_value row.mark e.value)

-- ---- the properties of a loop and of positions
-- how many operands are for the lower bound and for the upper one, and how many values are carried
pub record Segments : Type 0 where
  pub lower : ℕ
  pub upper : ℕ
  pub carried : ℕ

abbrev pub three : List (Option ℕ) → Option Segments
three (Some a ∷ Some b ∷ Some c ∷ []) = Some (record { lower = a; upper = b; carried = c })
three _ = None

abbrev pub segments_of : Node → Option Segments
segments_of node =
    option_and_then (λ value. option_and_then (λ numbers. three (map (natural (2 ^ 128)) numbers)) (array_of (codes "i32") value))
    (entry_of (codes "operandSegmentSizes") node)

-- the numbers of an array of type i64
abbrev pub numbers_of : List ℕ → Node → Option (List ℤ)
numbers_of name node = option_and_then (array_of (codes "i64")) (entry_of name node)
