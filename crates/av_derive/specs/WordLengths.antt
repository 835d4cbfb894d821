-- The keywords by the lengths of their words.
use Rattle.std.specs.Prelude.{ℕ, ◌&&◌, nat_le, List, [], ◌∷◌, length, if◌then◌else◌}
use Rattle.av_tree.specs.declared.class.Keyword.{Keyword}

-- those entries whose words have from `least` to `most` bytes
abbrev pub of_lengths : ℕ → ℕ → List (List ℕ × Keyword) → List (List ℕ × Keyword)
of_lengths least most [] = []
of_lengths least most (entry ∷ rest) =
    if nat_le least (length entry.0) && nat_le (length entry.0) most then entry ∷ of_lengths least most rest else of_lengths least most rest
