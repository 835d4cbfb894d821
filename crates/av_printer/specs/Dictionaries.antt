-- The spelling of dictionaries: their entries in order of name.
use Rattle.std.specs.Prelude.{ℕ, Bool, List, [], ◌∷◌, map, if◌then◌else◌}
use Rattle.std.specs.Ordering.{is_lt, nat_cmp}
use Rattle.std.specs.Cmp.Lexicographic.{slice_cmp}
use denote.Ref.{Bor}
use Rattle.av_tree.specs.declared.attribute.Named.{Named, out-Named}
use Rattle.av_printer.specs.Pieces.{Piece, commas}
use Rattle.av_printer.specs.Attributes.{entry_pieces}

-- a text stands before another by the first byte in which they differ, or as its beginning
abbrev pub stands_before : List ℕ → List ℕ → Bool
stands_before a b = is_lt (slice_cmp nat_cmp a b)

-- an entry before the first of a later name
unfoldable pub inserted : Named → List Named → List Named
inserted e [] = e ∷ []
inserted e (x ∷ xs) = if stands_before (out-Named e).name (out-Named x).name then e ∷ x ∷ xs else x ∷ inserted e xs

unfoldable pub ordered_onto : List Named → List Named → List Named
ordered_onto ordered [] = ordered
ordered_onto ordered (e ∷ entries) = ordered_onto (inserted e ordered) entries

-- in order of name; entries of one name stay in their order
abbrev pub in_order : List Named → List Named
in_order entries = ordered_onto [] entries

-- the entries behind references
abbrev pub pointed : List (Bor Named) → List Named
pointed references = map (λ (r : Bor Named). r.now) references

abbrev pub dictionary : List Named → List Piece
dictionary entries = commas (map entry_pieces (in_order entries))
