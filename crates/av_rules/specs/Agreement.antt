-- Whether the types of an operation agree with each other, with what is written, with its regions and with its holder.
use Rattle.std.specs.Prelude.{ℕ, ◌+◌, ◌-◌, ◌==◌, nat_lt, Bool, true, false, not, ◌&&◌, ◌||◌, List, [], ◌∷◌, ◌++◌, length, map, flat_map, take, drop, option_map, Option, Some, None, codes}
use Rattle.std.specs.List.{list_all}
use Rattle.std.specs.Option.{option_and_then, option_map_or, option_to_list}
use Rattle.std.specs.Cmp.Lexicographic.{pointwise}
use Rattle.av_bits.specs.Pattern.{bits_of}
use Rattle.av_ir.specs.declared.ty.Elem.{Elem}
use Rattle.av_ir.specs.declared.ty.Elem.TheVariants.{Int, Index}
use Rattle.av_ir.specs.declared.ty.Ty.{Ty}
use Rattle.av_ir.specs.declared.ty.Ty.TheVariants as ty
use Rattle.av_signatures.specs.declared.signature.Arguments.TheVariants as arguments
use Rattle.av_signatures.specs.declared.signature.Class.{Class}
use Rattle.av_signatures.specs.declared.signature.Class.TheVariants as class
use Rattle.av_signatures.specs.declared.signature.Demand.{Demand}
use Rattle.av_signatures.specs.declared.signature.Demand.TheVariants as demand
use Rattle.av_signatures.specs.declared.signature.Pair.{Pair}
use Rattle.av_signatures.specs.declared.signature.Pair.TheVariants as pair
use Rattle.av_signatures.specs.declared.signature.Place.TheVariants as place
use Rattle.av_signatures.specs.declared.signature.Role.{Role}
use Rattle.av_signatures.specs.declared.signature.Role.TheVariants as role
use Rattle.av_tree.specs.declared.attribute.Attr.{Attr, List', Dictionary', Row_of-Attr, end_of-Attr, more_of-Attr, Row_of-Named, end_of-Named, more_of-Named}
use Rattle.av_tree.specs.declared.attribute.Attr.TheVariants as value
use Rattle.av_tree.specs.declared.node.BodyArg.{BodyArg}
use Rattle.av_tree.specs.declared.written.TypeText.{TypeText}
use Rattle.av_types.specs.Texts.{is_type}
use Rattle.av_types.specs.Relations.{element_of, is_index, is_memref, is_plain, is_truth, is_vector, rank_of, same_elements, same_sizes, same_type, stretches_to, truths_of}
use Rattle.av_rules.specs.Counts.{count_from, is_in_place}
use Rattle.av_rules.specs.Entries.{entry_of, function_of, kept, numbers_of}
use Rattle.av_rules.specs.Places.{Holder, Site, operand_types}
use Rattle.av_rules.specs.Rows.{Row}
use Rattle.av_rules.specs.Typing.{carried_types, index_type, part_at, result_types, spelled, type_at}
use Rattle.av_rules.specs.Views.{Function, function_in, fields, inside}

-- what isn't known is asked for elsewhere
abbrev pub if_known : (Ty → Bool) → Option Ty → Bool
if_known p t = option_map_or p t true

abbrev pub if_both : (Ty → Ty → Bool) → Option Ty → Option Ty → Bool
if_both p (Some a) (Some b) = p a b
if_both p _ _ = true

-- ---- classes and pairs
-- a vector of one size
abbrev pub is_flat : Ty → Bool
is_flat t = is_vector t && (rank_of t == 1)

-- its last size counts times the scale
abbrev pub is_scaled : Ty → Bool
is_scaled (ty.Vector shape elem) = shape.scalable
is_scaled _ = false

abbrev pub is_of : Class → Ty → Bool
is_of class.Plain t = is_plain t
is_of class.Index t = same_type index_type t
is_of class.Buffer t = is_memref t
is_of class.SizedBuffer t = is_memref t && nat_lt 0 (rank_of t)
is_of class.Vector t = is_vector t
is_of class.Flat t = is_flat t
is_of class.FixedFlat t = is_flat t && not (is_scaled t)
is_of class.FlatIndices t = is_flat t && is_index (element_of t)
is_of class.FlatTruths t = is_flat t && is_truth (element_of t)
is_of class.Truths t = is_vector t && is_truth (element_of t)

-- integers with these numbers of bits; `index` is none
abbrev pub by_bits : (ℕ → ℕ → Bool) → Elem → Elem → Bool
by_bits p (Int v) (Int w) = p (bits_of v) (bits_of w)
by_bits p _ _ = false

abbrev pub just_one : Bool → Bool → Bool
just_one true b = not b
just_one false b = b

-- one number is below the other
abbrev pub greater : ℕ → ℕ → Bool
greater m n = nat_lt n m

-- the pair of types, at an operation whose position may be needed
abbrev pub is_pair : Site → Pair → Ty → Ty → Bool
is_pair site pair.Same a b = same_type a b
is_pair site pair.SameSizes a b = same_sizes a b
is_pair site pair.SameElements a b = same_elements a b
is_pair site pair.ElementOf a b = same_type a (ty.Scalar (element_of b))
is_pair site pair.Narrower a b = by_bits nat_lt (element_of a) (element_of b)
is_pair site pair.Wider a b = by_bits greater (element_of a) (element_of b)
is_pair site pair.OneIndex a b = just_one (is_index (element_of a)) (is_index (element_of b))
is_pair site pair.Chooses a b = same_type a (truths_of b) || same_type a (truths_of (ty.Scalar Index))
is_pair site pair.Broadcasts a b = stretches_to a b
is_pair site pair.PartOf a b = if_known (same_type a) (part_at (Some b) (numbers_of (codes "static_position") site.node))

-- ---- constants
-- a number and a truth value are of a scalar type, and a list of elements of a vector type, which is the one that is written for the result
abbrev pub value_agrees : Option Attr → Option Ty → Bool
value_agrees (Some (value.Number n t)) (Some r) = not (is_vector r) && option_map_or (same_type r) (spelled t) true
value_agrees (Some (value.Bool b)) (Some r) = not (is_vector r)
value_agrees (Some (value.Dense elements t)) (Some r) = is_vector r && option_map_or (same_type r) (spelled t) true
value_agrees _ _ = true

-- ---- demands on types
-- the operands from a place on, but for so many last ones
abbrev pub between : ℕ → ℕ → List (Option Ty) → List (Option Ty)
between from behind types = take (length types - (from + behind)) (drop from types)

-- a list of types, where they are known
abbrev pub results_known : Row → Site → List (Option Ty)
results_known row site = option_map_or (λ types. types) (result_types row site) []

abbrev pub asks_types : Row → Site → Demand → Bool
asks_types row site (demand.Is p c) = if_known (is_of c) (type_at site p)
asks_types row site (demand.Two r p q) = if_both (is_pair site r) (type_at site p) (type_at site q)
asks_types row site (demand.IfThere r p q) = if_both (is_pair site r) (type_at site p) (type_at site q)
asks_types row site (demand.Indices from behind) = list_all (if_known (same_type index_type)) (between from behind (operand_types site))
asks_types row site demand.PlainResults = list_all (if_known is_plain) (results_known row site)
asks_types row site demand.ValueAgrees = value_agrees (entry_of (codes "value") site.node) (type_at site place.Result)
asks_types row site _ = true

-- ---- what is written
-- a type is written as it is, or left out
abbrev pub is_written_as : Option TypeText → Option Ty → Bool
is_written_as None t = true
is_written_as (Some text) t = if_both same_type (spelled text) t

-- one type, or none, is written for each operand and for each result, where their number is known
abbrev pub writes_types : Row → Site → Bool
writes_types row site =
    pointwise is_written_as (fields site.node).in_types (operand_types site)
    && option_map_or (λ n. length (fields site.node).out_types == n) (count_from row site row.source) true
    && option_map_or (pointwise is_written_as (fields site.node).out_types) (result_types row site) true

-- the types that an attribute has in it; those of a function type are its inputs and results
abbrev pub parts_of_type : TypeText → List TypeText
parts_of_type t = option_map_or (λ (f : Function). f.inputs ++ f.results) (function_in t) (t ∷ [])

unfoldable mutual
  pub types_in : Attr → List TypeText
  types_in (value.Number n t) = t ∷ []
  types_in (value.Bool b) = []
  types_in (value.Quoted text) = []
  types_in (value.Symbol text) = []
  types_in (value.«Type» t) = parts_of_type t
  types_in (value.Map m) = []
  types_in (value.Set m) = []
  types_in (value.AliasUse text) = []
  types_in (value.Hash name words) = []
  types_in (List' s items) = types_in_items items
  types_in (Dictionary' s entries) = types_in_entries entries
  types_in (value.Array elem numbers) = elem ∷ []
  types_in (value.Dense elements t) = t ∷ []
  types_in value.Unit = []

  pub types_in_items : {m : _} → Row_of-Attr m → List TypeText
  types_in_items end_of-Attr = []
  types_in_items (more_of-Attr item rest) = types_in item ++ types_in_items rest

  pub types_in_entries : {m : _} → Row_of-Named m → List TypeText
  types_in_entries end_of-Named = []
  types_in_entries (more_of-Named name item rest) = types_in item ++ types_in_entries rest

abbrev pub types_of_arguments : Site → List TypeText
types_of_arguments site = flat_map (λ body. map (λ arg. arg.ty) (inside body).args) (fields site.node).regions

-- all types that stand at an operation, but in what is dropped
abbrev pub types_written : Row → Site → List TypeText
types_written row site =
    flat_map option_to_list (fields site.node).in_types ++ flat_map option_to_list (fields site.node).out_types ++ types_of_arguments site
    ++ flat_map (λ e. types_in e.value) (kept row site.node)

-- a type that no text writes is one all the same: a vector has no size 0
abbrev pub is_value_type : Ty → Bool
is_value_type (ty.Vector shape elem) = not (length shape.sizes == 0) && list_all (nat_lt 0) shape.sizes
is_value_type t = true

-- ---- regions
-- types of arguments, as far as there are arguments for them
abbrev pub are_typed : List BodyArg → List (Option Ty) → Bool
are_typed (arg ∷ args) (t ∷ types) = if_both same_type (spelled arg.ty) t && are_typed args types
are_typed _ _ = true

-- what the arguments of the operation's regions have to be, where that is known
abbrev pub argument_types : Row → Site → Role → Option (List (Option Ty))
argument_types row site (role.Holds n arguments.Inputs e) =
    option_map (λ (f : Function). map spelled f.inputs) (option_and_then function_of (entry_of (codes "function_type") site.node))
argument_types row site (role.Holds n arguments.Turn e) = option_map (λ types. Some index_type ∷ types) (carried_types row site)
argument_types row site _ = Some []

abbrev pub regions_agree : Row → Site → Bool
regions_agree row site =
    list_all (λ body. option_map_or (are_typed (inside body).args) (argument_types row site row.role) true) (fields site.node).regions

-- ---- the holder
-- a terminator in its place hands on what its holder has to give
abbrev pub hands_on_types : Row → Site → Bool
hands_on_types row site =
    not (is_in_place row site)
    || option_map_or (λ (h : Holder). option_map_or (pointwise (if_both same_type) (operand_types site)) h.hands_on true) site.holder true

-- ---- all of it
abbrev pub types_agree : Row → Site → Bool
types_agree row site =
    list_all is_type (types_written row site) && writes_types row site && list_all (if_known is_value_type) (results_known row site)
    && list_all (asks_types row site) row.demands && regions_agree row site && hands_on_types row site
