-- The map of an access: one parameter for each value in its subscripts.
use Rattle.std.specs.Prelude.{ℕ, zero, suc, List, [], ◌∷◌, ◌++◌, length, reverse, codes, decimal}
use Rattle.av_tree.specs.declared.written.ExprText.{ExprText, Name, Const, Neg', Add', Sub', Mul', Mod', Floor', Ceil', end_of-ExprText, more_of-ExprText}
use Rattle.av_tree.specs.declared.written.ExprText.TheVariants as expr
use Rattle.av_values.specs.declared.value.LeafKind.{LeafKind}
use Rattle.av_values.specs.declared.value.LeafKind.TheVariants.{Dimension, Symbol}
use Rattle.av_values.specs.declared.value.Expression.{Expression}
use Rattle.av_values.specs.declared.subscripts.Leaves.{Leaves}
use Rattle.av_values.specs.declared.subscripts.Numbering.{Numbering}

-- the name of a parameter: a letter and its number in decimal
abbrev pub name_of : List ℕ → ℕ → List ℕ
name_of letter number = letter ++ decimal number

-- the leaves of a kind get the next number of this kind; where kinds lack, a leaf is a dimension
abbrev pub next_parameter : List LeafKind → List ℕ → Leaves → List ℕ × Leaves
next_parameter [] value leaves =
    (name_of (codes "d") (length leaves.dims), record leaves { kinds = []; dims = leaves.dims ++ value ∷ [] })
next_parameter (Dimension ∷ kinds) value leaves =
    (name_of (codes "d") (length leaves.dims), record leaves { kinds = kinds; dims = leaves.dims ++ value ∷ [] })
next_parameter (Symbol ∷ kinds) value leaves =
    (name_of (codes "s") (length leaves.syms), record leaves { kinds = kinds; syms = leaves.syms ++ value ∷ [] })

-- one side, then the other
abbrev pub both : (ExprText → ExprText → ExprText) → ExprText × Leaves → (Leaves → ExprText × Leaves) → ExprText × Leaves
both calculation left right = let more = right left.1 in (calculation left.0 more.0, more.1)

-- an expression with parameters in place of its values, from the left to the right
unfoldable pub numbered : ExprText → Leaves → ExprText × Leaves
numbered (Name value) leaves = let next = next_parameter leaves.kinds value leaves in (expr.Name next.0, next.1)
numbered (Const z) leaves = (expr.Const z, leaves)
numbered (Neg' s (more_of-ExprText a end_of-ExprText)) leaves = let side = numbered a leaves in (expr.Neg side.0, side.1)
numbered (Add' s (more_of-ExprText a end_of-ExprText) t (more_of-ExprText b end_of-ExprText)) leaves = both expr.Add (numbered a leaves) (numbered b)
numbered (Sub' s (more_of-ExprText a end_of-ExprText) t (more_of-ExprText b end_of-ExprText)) leaves = both expr.Sub (numbered a leaves) (numbered b)
numbered (Mul' s (more_of-ExprText a end_of-ExprText) t (more_of-ExprText b end_of-ExprText)) leaves = both expr.Mul (numbered a leaves) (numbered b)
numbered (Mod' s (more_of-ExprText a end_of-ExprText) t (more_of-ExprText b end_of-ExprText)) leaves = both expr.Mod (numbered a leaves) (numbered b)
numbered (Floor' s (more_of-ExprText a end_of-ExprText) t (more_of-ExprText b end_of-ExprText)) leaves = both expr.Floor (numbered a leaves) (numbered b)
numbered (Ceil' s (more_of-ExprText a end_of-ExprText) t (more_of-ExprText b end_of-ExprText)) leaves = both expr.Ceil (numbered a leaves) (numbered b)

-- all subscripts of an access, the first one first; each has the kinds of its own leaves
unfoldable pub numbered_all : List Expression → Leaves → List ExprText × Leaves
numbered_all [] leaves = ([], leaves)
numbered_all (subscript ∷ subscripts) leaves =
    let first = numbered subscript.expr (record leaves { kinds = subscript.leaves }) in
    let more = numbered_all subscripts first.1 in
    (first.0 ∷ more.0, more.1)

-- the names of so many parameters with this letter
unfoldable pub first_names : List ℕ → ℕ → List (List ℕ)
first_names letter zero = []
first_names letter (suc number) = first_names letter number ++ name_of letter number ∷ []

-- the map of numbered subscripts, and the values of its dimensions and of its symbols
abbrev pub numbering_of : List ExprText → Leaves → Numbering
numbering_of results leaves = record {
  map = record {
    dims = first_names (codes "d") (length leaves.dims);
    syms = first_names (codes "s") (length leaves.syms);
    results = results;
  };
  dims = leaves.dims;
  syms = leaves.syms;
}

abbrev pub no_leaves : Leaves
no_leaves = record { kinds = []; dims = []; syms = [] }

-- the map of an access with these subscripts, the first one first
abbrev pub numbering : List Expression → Numbering
numbering subscripts = let all = numbered_all subscripts no_leaves in numbering_of all.0 all.1

-- the leaves as the program holds them, the next kind last
abbrev pub turned : Leaves → Leaves
turned leaves = record leaves { kinds = reverse leaves.kinds }
