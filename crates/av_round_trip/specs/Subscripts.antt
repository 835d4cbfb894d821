-- Subscripts of accesses, in which values stand for the parameters of a map, that are printed and read again as expressions of these values.
use Rattle.std.specs.Prelude.{ℕ, ◌≤◌, List, [], ◌∷◌, map, reverse, Option, Some, None}
use Rattle.std.specs.List.{All}
use Rattle.av_tree.specs.declared.table.Symbol.TheVariants as symbol
use Rattle.av_tree.specs.declared.table.Name.TheVariants as name
use Rattle.av_tree.specs.declared.table.subscripts.SubscriptName.TheVariants as subscripts_name
use Rattle.av_tree.specs.declared.written.ExprText.{ExprText, ExprText-F, fold-ExprText, Name, Const, Neg}
use Rattle.av_tree.specs.declared.written.ExprText.TheOpen as expr
use Rattle.av_tree.specs.declared.written.MapText.{MapText}
use Rattle.av_printer.specs.Pieces.{Piece, commas}
use Rattle.av_printer.specs.Expressions.{expression, placed, leaf, dim_values, sym_values}
use Rattle.av_values.specs.declared.value.Expression.{Expression}
use Rattle.av_values.specs.declared.value.LeafKind.TheVariants.{Dimension, Symbol}
use Rattle.av_values.specs.declared.value.Operator.{Operator}
use Rattle.av_values.specs.declared.value.Operator.TheVariants as operator
use Rattle.av_values.specs.declared.value.Value.TheVariants as value
use Rattle.av_values.specs.Expressions.{with_part}
use Rattle.av_round_trip.specs.Giving.{Gives}
use Rattle.av_round_trip.specs.Types.{IsNameOfValue}
use Rattle.av_round_trip.specs.Expressions.{IsLegible, signs_of}

-- ---- names
-- a value stands for a name, as that of a dimension or of a symbol
abbrev pub StandsFor : Option (List ℕ) → Option (List ℕ) → Type 0
StandsFor (Some v) other = IsNameOfValue v
StandsFor None (Some v) = IsNameOfValue v
StandsFor None None = ⊥

-- what the name is read as
abbrev pub stood_for : Option (List ℕ) → Option (List ℕ) → List ℕ → Expression
stood_for (Some v) other name = record { expr = Name v; leaves = Dimension ∷ [] }
stood_for None (Some v) name = record { expr = Name v; leaves = Symbol ∷ [] }
stood_for None None name = record { expr = Name name; leaves = [] }

module _ (m : MapText) (operands : List (List ℕ)) where
  abbrev pub dim_of : List ℕ → Option (List ℕ)
  dim_of name = placed m.dims (dim_values m operands) name

  abbrev pub sym_of : List ℕ → Option (List ℕ)
  sym_of name = placed m.syms (sym_values m operands) name

  abbrev pub HasValue : List ℕ → Type 0
  HasValue name = StandsFor (dim_of name) (sym_of name)

  abbrev pub name_read : List ℕ → Expression
  name_read name = stood_for (dim_of name) (sym_of name) name

  abbrev pub name_pieces : List ℕ → List Piece
  name_pieces = leaf m.dims (dim_values m operands) m.syms (sym_values m operands)

-- ---- expressions
abbrev calculated : Operator → Expression → Expression → Expression
calculated o a b = with_part a (record { operator = o; right = b })

abbrev pub read_step : (List ℕ → Expression) → ExprText-F Expression → Expression
read_step at (expr.Name name) = at name
read_step at (expr.Const z) = record { expr = Const z; leaves = [] }
read_step at (expr.Neg a) = record { expr = Neg a.expr; leaves = a.leaves }
read_step at (expr.Add a b) = calculated operator.Add a b
read_step at (expr.Sub a b) = calculated operator.Sub a b
read_step at (expr.Mul a b) = calculated operator.Mul a b
read_step at (expr.Mod a b) = calculated operator.Mod a b
read_step at (expr.Floor a b) = calculated operator.Floor a b
read_step at (expr.Ceil a b) = calculated operator.Ceil a b

-- an expression whose names are read so; the kinds of its values are in order
unfoldable pub read_with : (List ℕ → Expression) → ExprText → Expression
read_with at = fold-ExprText Expression (read_step at)

-- an expression that can be read where it may have so many signs
pub record IsSubscript (most : ℕ) (m : MapText) (operands : List (List ℕ)) (e : ExprText) : Type 0 where
  pub legible : IsLegible (HasValue m operands) e
  pub few : signs_of (name_pieces m operands) e ≤ most

abbrev pub SubscriptsLaw : Type 0
SubscriptsLaw = (most : ℕ) (m : MapText) (operands : List (List ℕ)) → All (IsSubscript most m operands) m.results
    → Gives most (symbol.Rows (name.Subscript subscripts_name.Subscripts) ∷ []) (commas (map (expression (name_pieces m operands)) m.results))
    (value.Expressions (reverse (map (read_with (name_read m operands)) m.results)) ∷ [])
