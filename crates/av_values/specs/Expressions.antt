-- Expressions of the parts that they are written with.
use Rattle.std.specs.Prelude.{ℕ, List, [], ◌∷◌, ◌++◌, codes, if◌then◌else◌}
use Rattle.std.specs.Str.{bytes_eq}
use Rattle.av_tree.specs.declared.written.ExprText.{ExprText}
use Rattle.av_tree.specs.declared.written.ExprText.TheVariants as expr
use Rattle.av_values.specs.declared.value.Operator.{Operator}
use Rattle.av_values.specs.declared.value.Operator.TheVariants as operator
use Rattle.av_values.specs.declared.value.Part.{Part}
use Rattle.av_values.specs.declared.value.Expression.{Expression}

-- a sign or word with its two sides
abbrev pub calculation : Operator → ExprText → ExprText → ExprText
calculation operator.Add a b = expr.Add a b
calculation operator.Sub a b = expr.Sub a b
calculation operator.Mul a b = expr.Mul a b
calculation operator.Mod a b = expr.Mod a b
calculation operator.Floor a b = expr.Floor a b
calculation operator.Ceil a b = expr.Ceil a b

-- the word of a division
abbrev pub division_of : List ℕ → Operator
division_of word =
    if bytes_eq word (codes "floordiv") then operator.Floor
    else (if bytes_eq word (codes "ceildiv") then operator.Ceil else operator.Mod)

-- an expression with one part after it; the leaves of both sides stay in order
abbrev pub with_part : Expression → Part → Expression
with_part left part = record {
  expr = calculation part.operator left.expr part.right.expr;
  leaves = left.leaves ++ part.right.leaves;
}

-- an expression with all parts after it, joined from the left: `a + b - c` is `(a + b) - c`
unfoldable pub joined_left : Expression → List Part → Expression
joined_left whole [] = whole
joined_left whole (part ∷ parts) = joined_left (with_part whole part) parts
