-- The parameters of a map or set by their names, and the maps and sets that aliases stand for.
use Rattle.std.specs.Prelude.{ℕ, Bool, true, not, ◌&&◌, List, [], ◌∷◌, length, count_by, find, position, ◌==◌, if◌then◌else◌, Option, Some, None}
use Rattle.std.specs.List.{list_any}
use Rattle.std.specs.Option.{option_and_then, option_map}
use Rattle.std.specs.Str.{bytes_eq}
use Rattle.av_affine.specs.declared.expression.Leaf.{Leaf}
use Rattle.av_affine.specs.declared.expression.Leaf.TheVariants.{Dim, Sym}
use Rattle.av_tree.specs.declared.attribute.Alias.{Alias}
use Rattle.av_tree.specs.declared.attribute.Attr.{Attr}
use Rattle.av_tree.specs.declared.attribute.Attr.TheVariants.{Map, Set, AliasUse}
use Rattle.av_tree.specs.declared.written.MapText.{MapText}
use Rattle.av_tree.specs.declared.written.SetText.{SetText}

-- ---- parameters
-- the first place of a name among names
abbrev pub place_of : List (List ℕ) → List ℕ → Option ℕ
place_of names name = position (λ one. bytes_eq one name) names

-- the dimension of a name, or else its symbol; a name that is neither is a dimension past the last
abbrev pub leaf_among : Option ℕ → Option ℕ → ℕ → Leaf
leaf_among (Some at) symbol past = Dim at
leaf_among None (Some at) past = Sym at
leaf_among None None past = Dim past

abbrev pub leaf_of : List (List ℕ) → List (List ℕ) → List ℕ → Leaf
leaf_of dims syms name = leaf_among (place_of dims name) (place_of syms name) (length dims)

abbrev pub is_among : List (List ℕ) → List ℕ → Bool
is_among names name = list_any (λ one. bytes_eq one name) names

-- each of the names differs from those behind it, and from others
abbrev pub are_own : List (List ℕ) → List (List ℕ) → Bool
are_own [] others = true
are_own (name ∷ names) others = not (is_among names name) && not (is_among others name) && are_own names others

-- no parameter stands twice, as a dimension, as a symbol, or as both
abbrev pub parameters_differ : List (List ℕ) → List (List ℕ) → Bool
parameters_differ dims syms = are_own dims syms && are_own syms []

-- ---- aliases
abbrev pub is_alias : List ℕ → Alias → Bool
is_alias name alias = bytes_eq alias.name name

-- the value of an alias that is defined just once
abbrev pub aliased : List Alias → List ℕ → Option Attr
aliased aliases name =
    if count_by (is_alias name) aliases == 1 then option_map (λ alias. alias.value) (find (is_alias name) aliases) else None

abbrev pub written_map : Attr → Option MapText
written_map (Map m) = Some m
written_map _ = None

abbrev pub written_set : Attr → Option SetText
written_set (Set s) = Some s
written_set _ = None

-- what an attribute is, where it may be the use of an alias
abbrev pub unaliased : List Alias → Attr → Option Attr
unaliased aliases (AliasUse name) = aliased aliases name
unaliased aliases value = Some value

-- the map that an attribute is, written out or by an alias
abbrev pub map_in : List Alias → Attr → Option MapText
map_in aliases value = option_and_then written_map (unaliased aliases value)

abbrev pub set_in : List Alias → Attr → Option SetText
set_in aliases value = option_and_then written_set (unaliased aliases value)
