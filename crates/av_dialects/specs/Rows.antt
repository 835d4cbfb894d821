-- The table of operations as definitions read it.
use Rattle.std.specs.Prelude.{ℕ, ◌≡◌, ◌&&◌, Bool, true, not, List, [], ◌∷◌, map, length, Option, None, Some, slice_get, get_or, option_map, suc, if◌then◌else◌, codes}
use Rattle.std.specs.List.{list_any}
use Rattle.std.specs.Str.{bytes_eq}
use Rattle.av_dialects.specs.declared.item.Item.{Item}
use Rattle.av_dialects.specs.declared.item.Key.{Key}
use Rattle.av_dialects.specs.declared.item.Key.TheVariants as key
use Rattle.av_dialects.specs.declared.item.Lead.{Lead}
use Rattle.av_dialects.specs.declared.item.Mode.{Mode}
use Rattle.av_dialects.specs.declared.item.Results.{Results}
use Rattle.av_dialects.specs.declared.item.Results.TheVariants as result
use Rattle.av_dialects.specs.declared.rows.TheConstants.{KINDS, OVERFLOW_FLAGS, PREDICATES, ROWS}

-- a part of a form, and what stands before it
abbrev pub Part : Type 0
Part = Lead × Item

-- the columns of the table, each in the order of the operations' numbers
unfoldable pub names : List (List ℕ)
names = map (λ row. row.0.now) ROWS.now

unfoldable pub modes : List Mode
modes = map (λ row. row.1) ROWS.now

unfoldable pub results : List Results
results = map (λ row. row.2) ROWS.now

unfoldable pub forms : List (List Part)
forms = map (λ row. row.3.now) ROWS.now

unfoldable pub row_count : ℕ
row_count = length ROWS.now

-- the words of predicates, in the order of their numbers, and of kinds
unfoldable pub predicates : List (List ℕ)
predicates = map (λ word. word.now) PREDICATES.now

unfoldable pub kinds : List (List ℕ)
kinds = map (λ word. word.now) KINDS.now

-- the words that may stand in `overflow<..>`
unfoldable pub overflow_flags : List (List ℕ)
overflow_flags = map (λ word. word.now) OVERFLOW_FLAGS.now

-- the name of a property
abbrev pub property_of : Key → List ℕ
property_of key.Predicate = codes "predicate"
property_of key.Kind = codes "kind"
property_of key.StaticPosition = codes "static_position"
property_of key.Mask = codes "mask"

-- the operation of this number has this name, this form and so on
abbrev pub HasName : ℕ → List ℕ → Type 0
HasName number name = slice_get names number ≡ Some name

abbrev pub HasMode : ℕ → Mode → Type 0
HasMode number mode = slice_get modes number ≡ Some mode

abbrev pub HasResults : ℕ → Results → Type 0
HasResults number r = slice_get results number ≡ Some r

abbrev pub HasForm : ℕ → List Part → Type 0
HasForm number parts = slice_get forms number ≡ Some parts

-- the parts of an operation's form; none where no operation has the number
abbrev pub form_of : ℕ → List Part
form_of number = get_or forms number []

-- the name and the results of an operation; no bytes and none where no operation has the number
abbrev pub name_at : ℕ → List ℕ
name_at number = get_or names number []

abbrev pub results_at : ℕ → Results
results_at number = get_or results number result.Zero

-- the first place at which the name stands, or none
abbrev pub place_in : List (List ℕ) → List ℕ → Option ℕ
place_in [] name = None
place_in (n ∷ ns) name = if bytes_eq n name then Some 0 else option_map suc (place_in ns name)

-- the number of the operation with this name, or none
abbrev pub number_of : List ℕ → Option ℕ
number_of name = place_in names name

-- the name stands at no place of the list
abbrev pub IsNoneOf : List (List ℕ) → List ℕ → Type 0
IsNoneOf ns name = (k : ℕ) → ¬ (slice_get ns k ≡ Some name)

-- whether these names differ from each other
abbrev pub are_distinct : List (List ℕ) → Bool
are_distinct [] = true
are_distinct (name ∷ names) = not (list_any (bytes_eq name) names) && are_distinct names
