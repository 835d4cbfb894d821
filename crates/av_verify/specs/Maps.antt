-- Maps with the values of their parameters, normalised: parameters that don't occur are dropped, one
-- stands for each value, and they are numbered by first occurrence. No value is a symbol yet.
use Rattle.std.specs.Prelude.{ℕ, ◌+◌, ◌==◌, nat_le, pos, Bool, false, ◌&&◌, if◌then◌else◌, List, [], ◌∷◌, ◌++◌, length, map, position, slice_get, Option, Some, None, unwrap_or}
use Rattle.std.specs.List.{list_all}
use Rattle.av_affine.specs.declared.expression.AffMap.{AffMap}
use Rattle.av_affine.specs.declared.expression.Expr.{Expr}
use Rattle.av_affine.specs.declared.expression.Expr.TheVariants as expr
use Rattle.av_affine.specs.declared.expression.Leaf.TheVariants.{Dim}
use Rattle.av_ir.specs.declared.module.ValueId.{ValueId}
use Rattle.av_tree.specs.declared.written.ExprText.{ExprText, Name, Const, Neg', Add', Sub', Mul', Mod', Floor', Ceil', end_of-ExprText, more_of-ExprText}
use Rattle.av_tree.specs.declared.written.MapText.{MapText}
use Rattle.av_verify.specs.declared.maps.MapUse.{MapUse}
use Rattle.av_verify.specs.declared.scope.Role.{Role}
use Rattle.av_verify.specs.Expressions.{place_of}
use Rattle.av_verify.specs.Scopes.{is_dimension}

-- the map takes so many operands
abbrev pub takes : MapText → ℕ → Bool
takes m operands = length m.dims + length m.syms == operands

-- and gives so many results
abbrev pub has_arity : Option MapText → ℕ → ℕ → Bool
has_arity (Some m) operands results = takes m operands && (length m.results == results)
has_arity None operands results = false

-- all operands may be dimensions, and stand for dimensions
abbrev pub are_map_operands : List Role → Option MapText → List ValueId → Bool
are_map_operands roles (Some m) operands = nat_le (length operands) (length m.dims) && list_all (is_dimension roles) operands
are_map_operands roles None operands = false

-- the value at a place of the operands; 0 where there is none, which is refused
abbrev pub value_at : List ValueId → Option ℕ → ValueId
value_at operands (Some at) = unwrap_or (slice_get operands at) (record { 0 = 0 })
value_at operands None = record { 0 = 0 }

-- the value of a parameter
abbrev pub parameter_value : MapText → List ValueId → List ℕ → ValueId
parameter_value m operands name = value_at operands (place_of m.dims name)

-- the place of a value among others, or their number
abbrev pub place_among : List ValueId → ValueId → ℕ
place_among values value = unwrap_or (position (λ one. one.0 == value.0) values) (length values)

-- a value at the end, where it isn't there yet
abbrev pub with_value : List ValueId → ValueId → List ValueId
with_value used value = if place_among used value == length used then used ++ value ∷ [] else used

-- the values that occur in an expression, after others, each once and in the order of first occurrence
unfoldable pub occur : MapText → List ValueId → List ValueId → ExprText → List ValueId
occur m operands used (Name name) = with_value used (parameter_value m operands name)
occur m operands used (Const z) = used
occur m operands used (Add' s (more_of-ExprText a end_of-ExprText) t (more_of-ExprText b end_of-ExprText)) = occur m operands (occur m operands used a) b
occur m operands used (Sub' s (more_of-ExprText a end_of-ExprText) t (more_of-ExprText b end_of-ExprText)) = occur m operands (occur m operands used a) b
occur m operands used (Neg' s (more_of-ExprText a end_of-ExprText)) = used
occur m operands used (Mul' s (more_of-ExprText a end_of-ExprText) t (more_of-ExprText b end_of-ExprText)) = used
occur m operands used (Mod' s (more_of-ExprText a end_of-ExprText) t (more_of-ExprText b end_of-ExprText)) = used
occur m operands used (Floor' s (more_of-ExprText a end_of-ExprText) t (more_of-ExprText b end_of-ExprText)) = used
occur m operands used (Ceil' s (more_of-ExprText a end_of-ExprText) t (more_of-ExprText b end_of-ExprText)) = used

abbrev pub occur_in : MapText → List ValueId → List ValueId → List ExprText → List ValueId
occur_in m operands used [] = used
occur_in m operands used (e ∷ es) = occur_in m operands (occur m operands used e) es

abbrev pub occurring : MapText → List ValueId → List ValueId
occurring m operands = occur_in m operands [] m.results

-- the parameter of the normal form for a name
abbrev pub parameter : MapText → List ValueId → List ValueId → List ℕ → Expr
parameter m operands used name = expr.Param (Dim (place_among used (parameter_value m operands name)))

-- the expression over the places of these values; negations, products and divisions aren't taken yet
unfoldable pub renamed : MapText → List ValueId → List ValueId → ExprText → Expr
renamed m operands used (Name name) = parameter m operands used name
renamed m operands used (Const z) = expr.Const z
renamed m operands used (Add' s (more_of-ExprText a end_of-ExprText) t (more_of-ExprText b end_of-ExprText)) = expr.Add (renamed m operands used a) (renamed m operands used b)
renamed m operands used (Sub' s (more_of-ExprText a end_of-ExprText) t (more_of-ExprText b end_of-ExprText)) = expr.Sub (renamed m operands used a) (renamed m operands used b)
renamed m operands used (Neg' s (more_of-ExprText a end_of-ExprText)) = expr.Const (pos 0)
renamed m operands used (Mul' s (more_of-ExprText a end_of-ExprText) t (more_of-ExprText b end_of-ExprText)) = expr.Const (pos 0)
renamed m operands used (Mod' s (more_of-ExprText a end_of-ExprText) t (more_of-ExprText b end_of-ExprText)) = expr.Const (pos 0)
renamed m operands used (Floor' s (more_of-ExprText a end_of-ExprText) t (more_of-ExprText b end_of-ExprText)) = expr.Const (pos 0)
renamed m operands used (Ceil' s (more_of-ExprText a end_of-ExprText) t (more_of-ExprText b end_of-ExprText)) = expr.Const (pos 0)

-- the map over the values that occur, and these values
abbrev pub normal_map : MapText → List ValueId → AffMap
normal_map m operands = record {
  dims = length (occurring m operands);
  syms = 0;
  results = map (renamed m operands (occurring m operands)) m.results;
}

abbrev pub normalised : MapText → List ValueId → MapUse
normalised m operands = record { map = normal_map m operands; operands = occurring m operands }
