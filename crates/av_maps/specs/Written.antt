-- Expressions, maps and sets as they are written, with numbers in place of the names of their parameters.
use Rattle.std.specs.Prelude.{ℕ, List, length, map}
use Rattle.av_affine.specs.declared.expression.AffMap.{AffMap}
use Rattle.av_affine.specs.declared.expression.AffSet.{AffSet}
use Rattle.av_affine.specs.declared.expression.Expr.{Expr}
use Rattle.av_affine.specs.declared.expression.Expr.TheVariants as expr
use Rattle.av_affine.specs.declared.expression.SetRow.{SetRow}
use Rattle.av_tree.specs.declared.written.ExprText.{ExprText, Name, Const, Neg', Add', Sub', Mul', Mod', Floor', Ceil', end_of-ExprText, more_of-ExprText}
use Rattle.av_tree.specs.declared.written.MapText.{MapText}
use Rattle.av_tree.specs.declared.written.RowText.{RowText}
use Rattle.av_tree.specs.declared.written.SetText.{SetText}
use Rattle.av_maps.specs.Names.{leaf_of}

-- the expression over the dimensions and symbols of these names
unfoldable pub expr_of : List (List ℕ) → List (List ℕ) → ExprText → Expr
expr_of dims syms (Name name) = expr.Param (leaf_of dims syms name)
expr_of dims syms (Const z) = expr.Const z
expr_of dims syms (Neg' s (more_of-ExprText a end_of-ExprText)) = expr.Neg (expr_of dims syms a)
expr_of dims syms (Add' s (more_of-ExprText a end_of-ExprText) t (more_of-ExprText b end_of-ExprText)) = expr.Add (expr_of dims syms a) (expr_of dims syms b)
expr_of dims syms (Sub' s (more_of-ExprText a end_of-ExprText) t (more_of-ExprText b end_of-ExprText)) = expr.Sub (expr_of dims syms a) (expr_of dims syms b)
expr_of dims syms (Mul' s (more_of-ExprText a end_of-ExprText) t (more_of-ExprText b end_of-ExprText)) = expr.Mul (expr_of dims syms a) (expr_of dims syms b)
expr_of dims syms (Mod' s (more_of-ExprText a end_of-ExprText) t (more_of-ExprText b end_of-ExprText)) = expr.Mod (expr_of dims syms a) (expr_of dims syms b)
expr_of dims syms (Floor' s (more_of-ExprText a end_of-ExprText) t (more_of-ExprText b end_of-ExprText)) = expr.Floor (expr_of dims syms a) (expr_of dims syms b)
expr_of dims syms (Ceil' s (more_of-ExprText a end_of-ExprText) t (more_of-ExprText b end_of-ExprText)) = expr.Ceil (expr_of dims syms a) (expr_of dims syms b)

abbrev pub map_of : MapText → AffMap
map_of m = record { dims = length m.dims; syms = length m.syms; results = map (expr_of m.dims m.syms) m.results }

abbrev pub row_of : List (List ℕ) → List (List ℕ) → RowText → SetRow
row_of dims syms row = record { left = expr_of dims syms row.left; equal = row.equal }

abbrev pub set_of : SetText → AffSet
set_of s = record { dims = length s.dims; syms = length s.syms; rows = map (row_of s.dims s.syms) s.rows }
