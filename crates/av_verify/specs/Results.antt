-- The names before `=`: `%r` names one result, `%r:2` two, which are used as `%r#0` and `%r#1`.
use Rattle.std.specs.Prelude.{ℕ, ◌==◌, Bool, true, ◌&&◌, List, [], ◌∷◌, ◌++◌, length, take, drop, position, unwrap_or, codes}
use Rattle.std.specs.List.{list_all}
use Rattle.av_tree.specs.declared.node.Node.{Node, out-Node}
use Rattle.av_verify.specs.FirstPath.{front, is_last, is_only}

-- the place of the `:` of a name, or its end
abbrev pub colon : List ℕ → ℕ
colon name = unwrap_or (position (λ byte. byte == 58) name) (length name)

-- the digits of 1: zeros, and a one
abbrev pub is_one : List ℕ → Bool
is_one digits = is_last (λ digit. digit == 49) digits && list_all (λ digit. digit == 48) (front digits)

-- from the `:` on: a name without it stands for one result
abbrev pub counts_one : List ℕ → Bool
counts_one [] = true
counts_one (c ∷ digits) = is_one digits

abbrev pub stands_for_one : List ℕ → Bool
stands_for_one name = counts_one (drop (colon name) name)

-- one result is named
abbrev pub has_one_result : Node → Bool
has_one_result node = is_only stands_for_one (out-Node node).results

abbrev pub has_no_result : Node → Bool
has_no_result node = length (out-Node node).results == 0

-- the name by which the one result of a name is used: `%r#0` for `%r:1`, and `%r` for `%r`
abbrev pub used_as : List ℕ → List ℕ → List ℕ
used_as stem [] = stem
used_as stem (c ∷ digits) = stem ++ codes "#0"

abbrev pub use_name : List ℕ → List ℕ
use_name name = used_as (take (colon name) name) (drop (colon name) name)

-- the name by which the result of an operation is used; no name where it isn't one
abbrev pub only_name : List (List ℕ) → List ℕ
only_name (name ∷ []) = use_name name
only_name _ = []

abbrev pub result_name : Node → List ℕ
result_name node = only_name (out-Node node).results
