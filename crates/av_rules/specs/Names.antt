-- The names before `=`: `%r` names one result, and `%r:2` two, which are used as `%r#0` and `%r#1`.
use Rattle.std.specs.Prelude.{ℕ, ◌+◌, ◌-◌, ◌*◌, ◌==◌, Bool, true, not, ◌&&◌, List, [], ◌∷◌, ◌++◌, map, sum, flat_map, take, drop, length, position, unwrap_or, codes}
use Rattle.std.specs.List.{fold, list_any, range_with_len}
use Rattle.std.specs.Str.{bytes_eq}
use Rattle.std.specs.Fmt.{decimal}

-- the place of the `:` of a text, or its end
abbrev pub colon : List ℕ → ℕ
colon text = unwrap_or (position (λ byte. byte == 58) text) (length text)

-- the number that digits write
abbrev pub number_written : List ℕ → ℕ
number_written digits = fold (λ n digit. n * 10 + (digit - 48)) 0 digits

-- how many results a text names, read from its `:` on
abbrev pub counted_from_colon : List ℕ → ℕ
counted_from_colon [] = 1
counted_from_colon (c ∷ digits) = number_written digits

abbrev pub count_named : List ℕ → ℕ
count_named text = counted_from_colon (drop (colon text) text)

-- the names by which they are used, where the text from its `:` on is known
abbrev pub used_as : List ℕ → List ℕ → List (List ℕ)
used_as stem [] = stem ∷ []
used_as stem (c ∷ digits) = map (λ k. stem ++ codes "#" ++ decimal k) (range_with_len 0 (number_written digits))

abbrev pub names_of : List ℕ → List (List ℕ)
names_of text = used_as (take (colon text) text) (drop (colon text) text)

abbrev pub names_in : List (List ℕ) → List (List ℕ)
names_in texts = flat_map names_of texts

-- how many results texts name
abbrev pub count_in : List (List ℕ) → ℕ
count_in texts = sum (map count_named texts)

-- whether a name is among others
abbrev pub is_among : List (List ℕ) → List ℕ → Bool
is_among names name = list_any (bytes_eq name) names

-- no two are the same
abbrev pub differ : List (List ℕ) → Bool
differ [] = true
differ (name ∷ names) = not (is_among names name) && differ names
