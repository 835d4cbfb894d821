-- Affine expressions as they are written, and their limits.
use Rattle.std.specs.Prelude.{ℕ, ◌+◌, ◌^◌, nat_le, unsigned_abs, Bool, true, false, not, ◌&&◌, ◌||◌, if◌then◌else◌, List, [], ◌∷◌, ◌++◌, position, Option, Some, None, is_some}
use Rattle.std.specs.List.{list_all}
use Rattle.std.specs.Str.{bytes_eq}
use Rattle.av_affine.specs.Finding.{limited, sum_found}
use Rattle.av_tree.specs.declared.written.ExprText.{ExprText, Name, Const, Neg', Add', Sub', Mul', Mod', Floor', Ceil', end_of-ExprText, more_of-ExprText}
use Rattle.av_tree.specs.declared.written.MapText.{MapText}

-- the first place of a name among names
abbrev pub place_of : List (List ℕ) → List ℕ → Option ℕ
place_of names name = position (λ one. bytes_eq one name) names

abbrev pub is_among : List (List ℕ) → List ℕ → Bool
is_among names name = is_some (place_of names name)

abbrev pub is_parameter : MapText → List ℕ → Bool
is_parameter m name = is_among m.dims name || is_among m.syms name

-- names, numbers, signs and words; a number with its sign is one
unfoldable pub node_count : ExprText → ℕ
node_count (Name name) = 1
node_count (Const z) = 1
node_count (Neg' s (more_of-ExprText a end_of-ExprText)) = node_count a + 1
node_count (Add' s (more_of-ExprText a end_of-ExprText) t (more_of-ExprText b end_of-ExprText)) = node_count a + node_count b + 1
node_count (Sub' s (more_of-ExprText a end_of-ExprText) t (more_of-ExprText b end_of-ExprText)) = node_count a + node_count b + 1
node_count (Mul' s (more_of-ExprText a end_of-ExprText) t (more_of-ExprText b end_of-ExprText)) = node_count a + node_count b + 1
node_count (Mod' s (more_of-ExprText a end_of-ExprText) t (more_of-ExprText b end_of-ExprText)) = node_count a + node_count b + 1
node_count (Floor' s (more_of-ExprText a end_of-ExprText) t (more_of-ExprText b end_of-ExprText)) = node_count a + node_count b + 1
node_count (Ceil' s (more_of-ExprText a end_of-ExprText) t (more_of-ExprText b end_of-ExprText)) = node_count a + node_count b + 1

-- how far from zero the value can be, where it is affine over the map's parameters and no part can
-- pass 2 ^ 110; negations, products and divisions aren't taken yet
unfoldable pub bound_found : MapText → ExprText → Option ℕ
bound_found m (Name name) = if is_parameter m name then Some (2 ^ 63) else None
bound_found m (Const z) = limited (unsigned_abs z)
bound_found m (Add' s (more_of-ExprText a end_of-ExprText) t (more_of-ExprText b end_of-ExprText)) = sum_found (bound_found m a) (bound_found m b)
bound_found m (Sub' s (more_of-ExprText a end_of-ExprText) t (more_of-ExprText b end_of-ExprText)) = sum_found (bound_found m a) (bound_found m b)
bound_found m (Neg' s (more_of-ExprText a end_of-ExprText)) = None
bound_found m (Mul' s (more_of-ExprText a end_of-ExprText) t (more_of-ExprText b end_of-ExprText)) = None
bound_found m (Mod' s (more_of-ExprText a end_of-ExprText) t (more_of-ExprText b end_of-ExprText)) = None
bound_found m (Floor' s (more_of-ExprText a end_of-ExprText) t (more_of-ExprText b end_of-ExprText)) = None
bound_found m (Ceil' s (more_of-ExprText a end_of-ExprText) t (more_of-ExprText b end_of-ExprText)) = None

-- at most 64 nodes, affine, and within the bound in all its parts
abbrev pub is_admissible : MapText → ExprText → Bool
is_admissible m e = nat_le (node_count e) 64 && is_some (bound_found m e)

-- names that differ from each other, from those before them and from others
abbrev pub are_own : List (List ℕ) → List (List ℕ) → List (List ℕ) → Bool
are_own before [] others = true
are_own before (name ∷ names) others =
    not (is_among before name) && not (is_among others name) && are_own (before ++ name ∷ []) names others

-- the parameters of a map differ, and its results are admissible
abbrev pub is_affine : Option MapText → Bool
is_affine (Some m) = list_all (is_admissible m) m.results && are_own [] m.dims m.syms && are_own [] m.syms []
is_affine None = false
