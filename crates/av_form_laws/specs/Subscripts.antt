-- The subscripts of an access, from the map and the operands that they are in the tree.
use Rattle.std.specs.Prelude.{ℕ, ◌≡◌, ◌+◌, if◌then◌else◌, List, [], ◌∷◌, ◌++◌, drop, length, map, Option, None, Some}
use Rattle.std.specs.Str.{bytes_eq}
use Rattle.av_tree.specs.declared.written.ExprText.{ExprText, Name, Const, Neg', Add', Sub', Mul', Mod', Floor', Ceil', end_of-ExprText, more_of-ExprText}
use Rattle.av_tree.specs.declared.written.ExprText.TheVariants as expr
use Rattle.av_tree.specs.declared.written.MapText.{MapText}
use Rattle.av_values.specs.Accesses.{numbering}
use Rattle.av_values.specs.declared.value.Expression.{Expression}
use Rattle.av_values.specs.declared.value.LeafKind.{LeafKind}
use Rattle.av_values.specs.declared.value.LeafKind.TheVariants as kind
use Rattle.av_form_laws.specs.Attributes.{Applied, written_map}

-- ---- subscripts as operands and a map
abbrev pub numbered_values : List Expression → List (List ℕ)
numbered_values subscripts = (numbering subscripts).dims ++ (numbering subscripts).syms

abbrev pub numbered_map : List Expression → Applied
numbered_map subscripts = written_map (numbering subscripts).map

-- ---- and back
-- the value beside a parameter
abbrev pub beside : List (List ℕ) → List (List ℕ) → List ℕ → Option (List ℕ)
beside [] values name = None
beside (p ∷ parameters) [] name = None
beside (p ∷ parameters) (v ∷ values) name = if bytes_eq p name then Some v else beside parameters values name

abbrev pub leaf : LeafKind → List ℕ → Expression
leaf k value = record { expr = expr.Name value; leaves = k ∷ [] }

-- the value of a dimension, or else that of a symbol, or else the name alone
abbrev pub leaf_of : Option (List ℕ) → Option (List ℕ) → List ℕ → Expression
leaf_of (Some v) other name = leaf kind.Dimension v
leaf_of None (Some v) name = leaf kind.Symbol v
leaf_of None None name = leaf kind.Dimension name

abbrev pub leaf_in : MapText → List (List ℕ) → List ℕ → Expression
leaf_in m values name = leaf_of (beside m.dims values name) (beside m.syms (drop (length m.dims) values) name) name

abbrev pub both : (ExprText → ExprText → ExprText) → Expression → Expression → Expression
both calculation a b = record { expr = calculation a.expr b.expr; leaves = a.leaves ++ b.leaves }

-- an expression with these leaves in place of its names
unfoldable pub with_leaves : (List ℕ → Expression) → ExprText → Expression
with_leaves at (Name name) = at name
with_leaves at (Const z) = record { expr = expr.Const z; leaves = [] }
with_leaves at (Neg' s (more_of-ExprText a end_of-ExprText)) = let e = with_leaves at a in record { expr = expr.Neg e.expr; leaves = e.leaves }
with_leaves at (Add' s (more_of-ExprText a end_of-ExprText) t (more_of-ExprText b end_of-ExprText)) = both expr.Add (with_leaves at a) (with_leaves at b)
with_leaves at (Sub' s (more_of-ExprText a end_of-ExprText) t (more_of-ExprText b end_of-ExprText)) = both expr.Sub (with_leaves at a) (with_leaves at b)
with_leaves at (Mul' s (more_of-ExprText a end_of-ExprText) t (more_of-ExprText b end_of-ExprText)) = both expr.Mul (with_leaves at a) (with_leaves at b)
with_leaves at (Mod' s (more_of-ExprText a end_of-ExprText) t (more_of-ExprText b end_of-ExprText)) = both expr.Mod (with_leaves at a) (with_leaves at b)
with_leaves at (Floor' s (more_of-ExprText a end_of-ExprText) t (more_of-ExprText b end_of-ExprText)) = both expr.Floor (with_leaves at a) (with_leaves at b)
with_leaves at (Ceil' s (more_of-ExprText a end_of-ExprText) t (more_of-ExprText b end_of-ExprText)) = both expr.Ceil (with_leaves at a) (with_leaves at b)

abbrev pub map_in : Applied → MapText
map_in (written_map m) = m
map_in _ = record { dims = []; syms = []; results = [] }

-- what the results of a map are with the values of its parameters
abbrev pub subscripts_of : MapText → List (List ℕ) → List Expression
subscripts_of m values = map (with_leaves (leaf_in m values)) m.results

-- ---- what can be a subscript
unfoldable pub name_count : ExprText → ℕ
name_count (Name name) = 1
name_count (Const z) = 0
name_count (Neg' s (more_of-ExprText a end_of-ExprText)) = name_count a
name_count (Add' s (more_of-ExprText a end_of-ExprText) t (more_of-ExprText b end_of-ExprText)) = name_count a + name_count b
name_count (Sub' s (more_of-ExprText a end_of-ExprText) t (more_of-ExprText b end_of-ExprText)) = name_count a + name_count b
name_count (Mul' s (more_of-ExprText a end_of-ExprText) t (more_of-ExprText b end_of-ExprText)) = name_count a + name_count b
name_count (Mod' s (more_of-ExprText a end_of-ExprText) t (more_of-ExprText b end_of-ExprText)) = name_count a + name_count b
name_count (Floor' s (more_of-ExprText a end_of-ExprText) t (more_of-ExprText b end_of-ExprText)) = name_count a + name_count b
name_count (Ceil' s (more_of-ExprText a end_of-ExprText) t (more_of-ExprText b end_of-ExprText)) = name_count a + name_count b

-- each value in it stands as a dimension or as a symbol
abbrev pub IsSubscript : Expression → Type 0
IsSubscript e = length e.leaves ≡ name_count e.expr
