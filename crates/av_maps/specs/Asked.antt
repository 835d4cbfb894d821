-- What is asked of maps and sets: their arity, their limits, and that their expressions are affine over parameters of their own.
use Rattle.std.specs.Prelude.{ℕ, ◌+◌, ◌==◌, nat_le, nat_lt, Bool, ◌&&◌, length, is_some}
use Rattle.std.specs.List.{list_all}
use Rattle.av_affine.specs.declared.expression.AffMap.{AffMap}
use Rattle.av_affine.specs.declared.expression.AffSet.{AffSet}
use Rattle.av_affine.specs.declared.expression.Expr.{Expr}
use Rattle.av_affine.specs.declared.expression.Leaf.{Leaf}
use Rattle.av_affine.specs.declared.expression.Leaf.TheVariants.{Dim, Sym}
use Rattle.av_affine.specs.Finding.{bound_found}
use Rattle.av_affine.specs.Limits.{node_count}
use Rattle.av_affine_laws.specs.Normalised.{parameters}
use Rattle.av_tree.specs.declared.written.MapText.{MapText}
use Rattle.av_tree.specs.declared.written.SetText.{SetText}
use Rattle.av_maps.specs.Names.{parameters_differ}
use Rattle.av_maps.specs.Written.{map_of, set_of}

-- ---- arity and limits
-- it has one parameter for each of so many operands
abbrev pub takes : AffMap → ℕ → Bool
takes m operands = m.dims + m.syms == operands

abbrev pub set_takes : AffSet → ℕ → Bool
set_takes s operands = s.dims + s.syms == operands

-- a map has at most 8 results, and a set at most 64 rows
abbrev pub has_few_results : AffMap → Bool
has_few_results m = nat_le (length m.results) 8

abbrev pub has_few_rows : AffSet → Bool
has_few_rows s = nat_le (length s.rows) 64

-- ---- expressions
-- a parameter is one of so many dimensions and symbols
abbrev pub is_own : ℕ → ℕ → Leaf → Bool
is_own dims syms (Dim k) = nat_lt k dims
is_own dims syms (Sym k) = nat_lt k syms

unfoldable pub has_own : ℕ → ℕ → Expr → Bool
has_own dims syms e = list_all (is_own dims syms) (parameters e)

-- the names that occur are parameters, the expression is affine, has at most 64 nodes, and no part of it can pass 2 ^ 110
abbrev pub is_good : ℕ → ℕ → Expr → Bool
is_good dims syms e = has_own dims syms e && nat_le (node_count e) 64 && is_some (bound_found e)

-- the parameters of a map differ, and its results are good
abbrev pub is_affine_map : MapText → Bool
is_affine_map m = parameters_differ m.dims m.syms && list_all (is_good (length m.dims) (length m.syms)) (map_of m).results

-- the same of a set and its rows
abbrev pub is_affine_set : SetText → Bool
is_affine_set s = parameters_differ s.dims s.syms && list_all (λ row. is_good (length s.dims) (length s.syms) row.left) (set_of s).rows
