-- Maps and sets as they are written, their parameters by name.
use Rattle.std.specs.Prelude.{ℕ, List, map, codes}
use Rattle.std.specs.List.{range_with_len}
use Rattle.av_affine.specs.declared.expression.Leaf.{Leaf}
use Rattle.av_affine.specs.declared.expression.Leaf.TheVariants.{Dim, Sym}
use Rattle.av_affine.specs.declared.expression.Expr.{Expr, Expr-F, fold-Expr}
use Rattle.av_affine.specs.declared.expression.Expr.TheOpen.{Param, Const, Neg, Add, Sub, Mul, Mod, Floor, Ceil}
use Rattle.av_affine.specs.declared.expression.AffMap.{AffMap}
use Rattle.av_affine.specs.declared.expression.AffSet.{AffSet}
use Rattle.av_affine.specs.declared.expression.SetRow.{SetRow}
use Rattle.av_tree.specs.declared.written.ExprText.{ExprText}
use Rattle.av_tree.specs.declared.written.ExprText.TheVariants as text
use Rattle.av_tree.specs.declared.written.MapText.{MapText}
use Rattle.av_tree.specs.declared.written.RowText.{RowText}
use Rattle.av_tree.specs.declared.written.SetText.{SetText}
use Rattle.av_totree.specs.Texts.{numbered}

-- the parameters are d0, d1, .. and s0, s1, ..
abbrev pub dimension_name : ℕ → List ℕ
dimension_name k = numbered (codes "d") k

abbrev pub symbol_name : ℕ → List ℕ
symbol_name k = numbered (codes "s") k

abbrev pub leaf_name : Leaf → List ℕ
leaf_name (Dim k) = dimension_name k
leaf_name (Sym k) = symbol_name k

abbrev pub expression_step : Expr-F ExprText → ExprText
expression_step (Param leaf) = text.Name (leaf_name leaf)
expression_step (Const z) = text.Const z
expression_step (Neg a) = text.Neg a
expression_step (Add a b) = text.Add a b
expression_step (Sub a b) = text.Sub a b
expression_step (Mul a b) = text.Mul a b
expression_step (Mod a b) = text.Mod a b
expression_step (Floor a b) = text.Floor a b
expression_step (Ceil a b) = text.Ceil a b

unfoldable pub expression_of : Expr → ExprText
expression_of = fold-Expr ExprText expression_step

-- so many names of parameters in order
abbrev pub names_of : (ℕ → List ℕ) → ℕ → List (List ℕ)
names_of name n = map name (range_with_len 0 n)

abbrev pub map_of : AffMap → MapText
map_of m = record {
  dims = names_of dimension_name m.dims;
  syms = names_of symbol_name m.syms;
  results = map expression_of m.results;
}

abbrev pub row_of : SetRow → RowText
row_of row = record { left = expression_of row.left; equal = row.equal }

abbrev pub set_of : AffSet → SetText
set_of set = record {
  dims = names_of dimension_name set.dims;
  syms = names_of symbol_name set.syms;
  rows = map row_of set.rows;
}
