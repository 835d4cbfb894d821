-- What holds of expressions, maps, sets and values that were read.
use Rattle.std.specs.Prelude.{ℕ, suc, ℤ, pos, negsuc, List, [], ◌∷◌}
use Rattle.std.specs.List.{All}
use Rattle.av_lex.specs.declared.token.Kind.TheVariants as kinds
use Rattle.av_tree.specs.declared.written.ExprText.{ExprText, Name, Const, Neg, Add, Sub, Mul, Mod, Floor, Ceil}
use Rattle.av_tree.specs.declared.written.MapText.{MapText}
use Rattle.av_tree.specs.declared.written.RowText.{RowText}
use Rattle.av_tree.specs.declared.written.SetText.{SetText}
use Rattle.av_printer.specs.Expressions.{before, from}
use Rattle.av_print_laws.specs.Spacing.{IsWord}
use Rattle.av_print_laws.specs.ReadTypes.{IsShortNumber}

-- a number has at most 38 digits, its sign aside
abbrev pub IsShortInteger : ℤ → Type 0
IsShortInteger (pos n) = IsShortNumber n
IsShortInteger (negsuc n) = IsShortNumber (suc n)

-- the names in an expression are words, and its numbers have at most 38 digits
pub data IsReadExpr : ExprText → Type 0 where
  name : (text : List ℕ) → IsWord kinds.Word text → IsReadExpr (Name text)
  number : (z : ℤ) → IsShortInteger z → IsReadExpr (Const z)
  negation : (a : ExprText) → IsReadExpr a → IsReadExpr (Neg a)
  sum : (a b : ExprText) → IsReadExpr a → IsReadExpr b → IsReadExpr (Add a b)
  difference : (a b : ExprText) → IsReadExpr a → IsReadExpr b → IsReadExpr (Sub a b)
  product : (a b : ExprText) → IsReadExpr a → IsReadExpr b → IsReadExpr (Mul a b)
  remainder : (a b : ExprText) → IsReadExpr a → IsReadExpr b → IsReadExpr (Mod a b)
  floored : (a b : ExprText) → IsReadExpr a → IsReadExpr b → IsReadExpr (Floor a b)
  ceiled : (a b : ExprText) → IsReadExpr a → IsReadExpr b → IsReadExpr (Ceil a b)

pub record IsReadMap (m : MapText) : Type 0 where
  pub dims : All (IsWord kinds.Word) m.dims
  pub syms : All (IsWord kinds.Word) m.syms
  pub results : All IsReadExpr m.results

abbrev pub IsReadRow : RowText → Type 0
IsReadRow r = IsReadExpr r.left

pub record IsReadSet (s : SetText) : Type 0 where
  pub dims : All (IsWord kinds.Word) s.dims
  pub syms : All (IsWord kinds.Word) s.syms
  pub rows : All IsReadRow s.rows

-- nothing, or `#` and a number
abbrev pub IsWhich : List ℕ → Type 0
IsWhich [] = Unit {0}
IsWhich (c ∷ cs) = IsWord kinds.HashId (c ∷ cs)

-- a text names a value, as `%a` or `%r#0`
abbrev pub IsValue : List ℕ → Type 0
IsValue text = IsWord kinds.ValId (before 35 text) × IsWhich (from 35 text)
