-- What holds of the whole table.
use Rattle.std.specs.Prelude.{ℕ, ◌≡◌, ◌&&◌, ◌||◌, nat_lt, Bool, true, false, not, List, [], ◌∷◌, map}
use Rattle.std.specs.List.{list_all, list_any}
use Rattle.std.specs.Cmp.Lexicographic.{pointwise}
use Rattle.std.specs.Str.{bytes_eq}
use Rattle.av_dialects.specs.declared.item.Item.TheVariants as item
use Rattle.av_dialects.specs.declared.item.Results.{Results}
use Rattle.av_dialects.specs.declared.item.Results.TheVariants as results
use Rattle.av_dialects.specs.declared.item.Typing.TheVariants as typing
use Rattle.av_dialects.specs.Rows.{Part, are_distinct, forms, names as dialect_names, property_of, results as result_column}
use Rattle.av_signatures.specs.declared.signature.Amount.{Amount}
use Rattle.av_signatures.specs.declared.signature.Amount.TheVariants as amount
use Rattle.av_signatures.specs.declared.signature.Count.{Count}
use Rattle.av_signatures.specs.declared.signature.Count.TheVariants as count
use Rattle.av_signatures.specs.declared.signature.Demand.{Demand}
use Rattle.av_signatures.specs.declared.signature.Demand.TheVariants as demand
use Rattle.av_signatures.specs.declared.signature.Form.{Form}
use Rattle.av_signatures.specs.declared.signature.Form.TheVariants as form
use Rattle.av_signatures.specs.declared.signature.Place.{Place}
use Rattle.av_signatures.specs.declared.signature.Place.TheVariants as place
use Rattle.av_signatures.specs.declared.signature.Source.{Source}
use Rattle.av_signatures.specs.declared.signature.Source.TheVariants as source
use Rattle.av_signatures.specs.Rows.{Property, demands, dropped, dropped_of_functions, names, operands, properties, sources}

-- ---- the rows are those of av_dialects
-- an operation with this source of types has these results; a type that its form doesn't write follows from others
abbrev pub gives : Source → Results → Bool
gives source.Nothing results.Zero = true
gives source.Carried results.Several = true
gives source.AllWritten results.Several = true
gives source.Nothing (results.One t) = false
gives source.Carried (results.One t) = false
gives source.AllWritten (results.One t) = false
gives source.Written (results.One typing.Follows) = false
gives s (results.One t) = true
gives s r = false

abbrev pub RowsLaw : Type 0
RowsLaw = (names ≡ dialect_names) × (pointwise gives sources result_column ≡ true)

-- ---- properties
abbrev pub property_names : List Property → List (List ℕ)
property_names ps = map (λ p. p.name) ps

-- a name comes before another, byte by byte
abbrev pub comes_before : List ℕ → List ℕ → Bool
comes_before [] [] = false
comes_before [] (b ∷ bs) = true
comes_before (a ∷ as') [] = false
comes_before (a ∷ as') (b ∷ bs) = nat_lt a b || (not (nat_lt b a) && comes_before as' bs)

abbrev pub are_in_order : List (List ℕ) → Bool
are_in_order [] = true
are_in_order (name ∷ []) = true
are_in_order (name ∷ other ∷ more) = comes_before name other && are_in_order (other ∷ more)

abbrev pub is_dropped_name : List ℕ → Bool
is_dropped_name name = list_any (bytes_eq name) dropped || list_any (bytes_eq name) dropped_of_functions

abbrev pub are_good_names : List (List ℕ) → Bool
are_good_names ns = are_in_order ns && are_distinct ns && not (list_any is_dropped_name ns)

abbrev pub PropertiesLaw : Type 0
PropertiesLaw = list_all (λ ps. are_good_names (property_names ps)) properties ≡ true

-- what a part of a form says of a property
abbrev pub keys_of : Part → List (List ℕ)
keys_of (lead, item.Word key) = property_of key ∷ []
keys_of (lead, item.Angled key) = property_of key ∷ []
keys_of (lead, item.Numbers key) = property_of key ∷ []
keys_of (lead, i) = []

abbrev pub has_keys : List Property → List Part → Bool
has_keys ps parts = list_all (λ part. list_all (λ key. list_any (bytes_eq key) (property_names ps)) (keys_of part)) parts

abbrev pub KeysLaw : Type 0
KeysLaw = pointwise has_keys properties forms ≡ true

-- ---- places
-- the least number of operands
abbrev pub least : Count → ℕ
least (count.Exactly n) = n
least (count.Between a b) = a
least (count.AtLeast n) = n
least (count.PerSize p n) = n

abbrev pub has_one_result : Source → Bool
has_one_result source.Nothing = false
has_one_result source.AllWritten = false
has_one_result source.Carried = false
has_one_result s = true

-- the place is there with so many operands
abbrev pub exists : ℕ → Source → Place → Bool
exists n s (place.Operand i) = nat_lt i n
exists n s (place.FromEnd i) = nat_lt i n
exists n s place.Result = has_one_result s

abbrev pub places_of_count : Count → List Place
places_of_count (count.PerSize p n) = p ∷ []
places_of_count c = []

abbrev pub places_of_source : Source → List Place
places_of_source (source.Like p) = p ∷ []
places_of_source (source.Element p) = p ∷ []
places_of_source (source.TruthLike p) = p ∷ []
places_of_source (source.Part p) = p ∷ []
places_of_source (source.Picked p) = p ∷ []
places_of_source s = []

-- the first place of `IfThere` may lack
abbrev pub places_of_demand : Demand → List Place
places_of_demand (demand.Is p class) = p ∷ []
places_of_demand (demand.Two pair p q) = p ∷ q ∷ []
places_of_demand (demand.IfThere pair p q) = q ∷ []
places_of_demand (demand.Indices from behind) = []
places_of_demand demand.PlainResults = []
places_of_demand demand.ValueAgrees = place.Result ∷ []
places_of_demand (demand.ShortPosition p) = p ∷ []
places_of_demand demand.ValueFits = place.Result ∷ []
places_of_demand (demand.Within p) = p ∷ []
places_of_demand (demand.Picks p q) = p ∷ q ∷ []

abbrev pub places_of_amount : Amount → List Place
places_of_amount (amount.PerSize p) = p ∷ []
places_of_amount a = []

abbrev pub places_of_form : Form → List Place
places_of_form (form.Map uses a) = places_of_amount a
places_of_form f = []

-- a result's type doesn't come from itself
abbrev pub is_operand : Place → Bool
is_operand place.Result = false
is_operand p = true

abbrev pub are_there : Count → Source → List Demand → List Property → Bool
are_there c s ds ps =
    list_all (exists (least c) s) (places_of_count c) && list_all (exists (least c) s) (places_of_source s) && list_all is_operand (places_of_source s)
    && list_all (λ d. list_all (exists (least c) s) (places_of_demand d)) ds
    && list_all (λ (p : Property). list_all (exists (least c) s) (places_of_form p.form)) ps

abbrev pub all_are_there : List Count → List Source → List (List Demand) → List (List Property) → Bool
all_are_there [] [] [] [] = true
all_are_there (c ∷ cs) (s ∷ ss) (ds ∷ dss) (ps ∷ pss) = are_there c s ds ps && all_are_there cs ss dss pss
all_are_there _ _ _ _ = false

abbrev pub PlacesLaw : Type 0
PlacesLaw = all_are_there operands sources demands properties ≡ true
