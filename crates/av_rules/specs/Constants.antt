-- Constants that fit their type, and positions that are within their vector.
use Rattle.std.specs.Prelude.{ℕ, ◌+◌, ◌-◌, ◌^◌, ◌==◌, nat_eq, ℤ, pos, neg_ℤ, int_le, int_lt, Bool, true, false, not, ◌&&◌, ◌||◌, if◌then◌else◌, List, [], ◌∷◌, length, flat_map, sum, option_map, Option, Some, None, codes}
use Rattle.std.specs.List.{list_all}
use Rattle.std.specs.Option.{option_map_or}
use Rattle.std.specs.Cmp.Lexicographic.{pointwise}
use Rattle.av_bits.specs.Pattern.{bits_of, pattern_of}
use Rattle.av_ir.specs.declared.ty.Elem.{Elem}
use Rattle.av_ir.specs.declared.ty.Ty.{Ty}
use Rattle.av_ir.specs.declared.ty.Ty.TheVariants as ty
use Rattle.av_ir.specs.Values.{width_of}
use Rattle.av_signatures.specs.declared.signature.Demand.{Demand}
use Rattle.av_signatures.specs.declared.signature.Demand.TheVariants as demand
use Rattle.av_signatures.specs.declared.signature.Place.TheVariants as place
use Rattle.av_tree.specs.declared.attribute.Attr.{Attr}
use Rattle.av_tree.specs.declared.attribute.Attr.TheVariants as value
use Rattle.av_tree.specs.declared.attribute.Element.{Element, List', Row_of-Element, end_of-Element, more_of-Element}
use Rattle.av_tree.specs.declared.attribute.Element.TheVariants as element
use Rattle.av_types.specs.Relations.{element_of, is_truth}
use Rattle.av_rules.specs.Entries.{entry_of, numbers_of}
use Rattle.av_rules.specs.Places.{Site}
use Rattle.av_rules.specs.Rows.{Row}
use Rattle.av_rules.specs.Typing.{type_at}

-- ---- lists of elements
-- a number, or a truth value, which is 1 or 0
pub record Leaf : Type 0 where
  pub number : ℤ
  pub is_word : Bool

-- a nest of lists: its sizes, where lists of one depth have one size, and what it lists
pub record Nest : Type 0 where
  pub sizes : Option (List ℕ)
  pub leaves : List Leaf

abbrev pub leaf : ℤ → Bool → Nest
leaf n w = record { sizes = Some []; leaves = record { number = n; is_word = w } ∷ [] }

-- the sizes of what is listed, where they are the same in all
abbrev pub same_sizes : Option (List ℕ) → Option (List ℕ) → Option (List ℕ)
same_sizes (Some a) (Some b) = if pointwise nat_eq a b then Some a else None
same_sizes _ _ = None

abbrev pub common_sizes : List Nest → Option (List ℕ)
common_sizes [] = Some []
common_sizes (nest ∷ []) = nest.sizes
common_sizes (nest ∷ other ∷ nests) = same_sizes nest.sizes (common_sizes (other ∷ nests))

abbrev pub listed : List Nest → Nest
listed nests = record { sizes = option_map (λ sizes. length nests ∷ sizes) (common_sizes nests); leaves = flat_map (λ nest. nest.leaves) nests }

unfoldable mutual
  pub nest_of : Element → Nest
  nest_of (element.Number n) = leaf n false
  nest_of (element.Bool true) = leaf (pos 1) true
  nest_of (element.Bool false) = leaf (pos 0) true
  nest_of (List' s items) = listed (nests_of items)

  pub nests_of : {m : _} → Row_of-Element m → List Nest
  nests_of end_of-Element = []
  nests_of (more_of-Element item rest) = nest_of item ∷ nests_of rest

-- ---- what fits
-- from -2 ^ (w - 1) to 2 ^ w - 1 at width w
abbrev pub fits : Elem → ℤ → Bool
fits elem n =
    int_le (neg_ℤ (pos (2 ^ (bits_of (width_of elem) - 1)))) n && int_lt n (pos (2 ^ bits_of (width_of elem)))

-- truth values fit i1 alone
abbrev pub leaf_fits : Elem → Leaf → Bool
leaf_fits elem l = fits elem l.number && (not l.is_word || is_truth elem)

abbrev pub same_pattern : Elem → Leaf → Leaf → Bool
same_pattern elem a b = pattern_of (bits_of (width_of elem)) a.number == pattern_of (bits_of (width_of elem)) b.number

abbrev pub all_same : Elem → List Leaf → Bool
all_same elem [] = true
all_same elem (l ∷ ls) = list_all (same_pattern elem l) ls

-- one element stands for all; else the lists have the sizes of the vector at scale 1, and where it is scaled all elements are the same
abbrev pub nest_fits : Ty → Nest → Bool
nest_fits (ty.Vector shape elem) nest =
    list_all (leaf_fits elem) nest.leaves
    && option_map_or (λ sizes. (length sizes == 0) || (pointwise nat_eq sizes shape.sizes && (not shape.scalable || all_same elem nest.leaves))) nest.sizes false
nest_fits _ nest = true

abbrev pub value_fits : Option Attr → Option Ty → Bool
value_fits (Some (value.Number n t)) (Some r) = fits (element_of r) n
value_fits (Some (value.Bool b)) (Some r) = is_truth (element_of r)
value_fits (Some (value.Dense elements t)) (Some r) = nest_fits r (nest_of elements)
value_fits _ _ = true

-- ---- positions
-- each number is from 0 on and below the size at its place
abbrev pub are_below : List ℤ → List ℕ → Bool
are_below (n ∷ numbers) (size ∷ sizes) = int_le (pos 0) n && int_lt n (pos size) && are_below numbers sizes
are_below [] sizes = true
are_below (n ∷ numbers) [] = true

abbrev pub sizes_of : Option Ty → List ℕ
sizes_of (Some (ty.Vector shape elem)) = shape.sizes
sizes_of _ = []

abbrev pub is_pick : ℕ → ℤ → Bool
is_pick lanes n = int_le (pos 0) n && int_lt n (pos lanes)

abbrev pub asks_values : Site → Demand → Bool
asks_values site demand.ValueFits = value_fits (entry_of (codes "value") site.node) (type_at site place.Result)
asks_values site (demand.Within p) =
    option_map_or (λ numbers. are_below numbers (sizes_of (type_at site p))) (numbers_of (codes "static_position") site.node) true
asks_values site (demand.Picks p q) =
    option_map_or (list_all (is_pick (sum (sizes_of (type_at site p)) + sum (sizes_of (type_at site q))))) (numbers_of (codes "mask") site.node) true
asks_values site _ = true

abbrev pub values_fit : Row → Site → Bool
values_fit row site = list_all (asks_values site) row.demands
