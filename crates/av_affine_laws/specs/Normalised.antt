-- A map applied to operands, normalised: parameters that don't occur are dropped with their operands, one parameter stands for each pair of a
-- value and a kind (dimension or symbol), and the parameters of each kind are numbered by first occurrence: results from left to right, and each
-- expression from left to right as it is written. An operand is the number of a value; those of the dimensions stand first, then those of the symbols.
use Rattle.std.specs.Prelude.{◌≡◌, ℕ, ◌+◌, ◌<◌, ◌≢◌, ◌↔◌, ◌==◌, ℤ, if◌then◌else◌, List, [], ◌∷◌, ◌++◌, length, map, take, drop, position, slice_index, unwrap_or, Contains, AllPairs, All}
use Rattle.std.specs.List.{flat_map}
use Rattle.av_affine.specs.declared.expression.AffMap.{AffMap}
use Rattle.av_affine.specs.declared.expression.Leaf.{Leaf}
use Rattle.av_affine.specs.declared.expression.Leaf.TheVariants.{Dim, Sym}
use Rattle.av_affine.specs.declared.expression.Expr.{Expr, Param, Const, Neg', Add', Sub', Mul', Mod', Floor', Ceil', end_of-Expr, more_of-Expr}
use Rattle.av_affine.specs.declared.expression.Expr.TheVariants as expr
use Rattle.av_affine.specs.Values.{leaves}

-- a map with its operands
pub record Applied : Type 0 where
  pub map : AffMap
  pub operands : List ℕ

-- values by the kind of the parameters that they stand for, those of each kind in the order of its numbers
pub record Operands : Type 0 where
  pub dims : List ℕ
  pub syms : List ℕ

-- the operands of a map, by kind
abbrev pub by_kind : AffMap → List ℕ → Operands
by_kind m operands = record { dims = take m.dims operands; syms = drop m.dims operands }

-- ---- first the values that occur

-- the place of a value among others, or their number
abbrev pub place_among : List ℕ → ℕ → ℕ
place_among values value = unwrap_or (position (λ one. one == value) values) (length values)

-- a value at the end, where it isn't there yet
abbrev pub with_value : List ℕ → ℕ → List ℕ
with_value values value = if place_among values value == length values then values ++ value ∷ [] else values

-- the value of a parameter, after others; 0 where it has no operand
abbrev pub with_parameter : Operands → Operands → Leaf → Operands
with_parameter given used (Dim k) = record { dims = with_value used.dims (slice_index given.dims k); syms = used.syms }
with_parameter given used (Sym k) = record { dims = used.dims; syms = with_value used.syms (slice_index given.syms k) }

-- the values that occur in an expression, after others: each once for each kind, in the order of first occurrence
unfoldable pub occur : Operands → Operands → Expr → Operands
occur given used (Param leaf) = with_parameter given used leaf
occur given used (Const z) = used
occur given used (Neg' s (more_of-Expr a end_of-Expr)) = occur given used a
occur given used (Add' s (more_of-Expr a end_of-Expr) t (more_of-Expr b end_of-Expr)) = occur given (occur given used a) b
occur given used (Sub' s (more_of-Expr a end_of-Expr) t (more_of-Expr b end_of-Expr)) = occur given (occur given used a) b
occur given used (Mul' s (more_of-Expr a end_of-Expr) t (more_of-Expr b end_of-Expr)) = occur given (occur given used a) b
occur given used (Mod' s (more_of-Expr a end_of-Expr) t (more_of-Expr b end_of-Expr)) = occur given (occur given used a) b
occur given used (Floor' s (more_of-Expr a end_of-Expr) t (more_of-Expr b end_of-Expr)) = occur given (occur given used a) b
occur given used (Ceil' s (more_of-Expr a end_of-Expr) t (more_of-Expr b end_of-Expr)) = occur given (occur given used a) b

-- those that occur in several
abbrev pub occur_in : Operands → Operands → List Expr → Operands
occur_in given used [] = used
occur_in given used (e ∷ es) = occur_in given (occur given used e) es

abbrev pub occurring : Operands → List Expr → Operands
occurring given es = occur_in given (record { dims = []; syms = [] }) es

-- ---- then the names

-- the parameter of the normal form for one of the map
abbrev pub parameter_for : Operands → Operands → Leaf → Leaf
parameter_for given used (Dim k) = Dim (place_among used.dims (slice_index given.dims k))
parameter_for given used (Sym k) = Sym (place_among used.syms (slice_index given.syms k))

-- the expression with other parameters
unfoldable pub renamed : (Leaf → Leaf) → Expr → Expr
renamed f (Param leaf) = expr.Param (f leaf)
renamed f (Const z) = expr.Const z
renamed f (Neg' s (more_of-Expr a end_of-Expr)) = expr.Neg (renamed f a)
renamed f (Add' s (more_of-Expr a end_of-Expr) t (more_of-Expr b end_of-Expr)) = expr.Add (renamed f a) (renamed f b)
renamed f (Sub' s (more_of-Expr a end_of-Expr) t (more_of-Expr b end_of-Expr)) = expr.Sub (renamed f a) (renamed f b)
renamed f (Mul' s (more_of-Expr a end_of-Expr) t (more_of-Expr b end_of-Expr)) = expr.Mul (renamed f a) (renamed f b)
renamed f (Mod' s (more_of-Expr a end_of-Expr) t (more_of-Expr b end_of-Expr)) = expr.Mod (renamed f a) (renamed f b)
renamed f (Floor' s (more_of-Expr a end_of-Expr) t (more_of-Expr b end_of-Expr)) = expr.Floor (renamed f a) (renamed f b)
renamed f (Ceil' s (more_of-Expr a end_of-Expr) t (more_of-Expr b end_of-Expr)) = expr.Ceil (renamed f a) (renamed f b)

-- expressions over the values that occur, and these values
abbrev pub over_values : Operands → Operands → List Expr → Applied
over_values given used es = record {
  map = record { dims = length used.dims; syms = length used.syms; results = map (renamed (parameter_for given used)) es };
  operands = used.dims ++ used.syms;
}

-- the normal form of a map and its operands
abbrev pub normalised : AffMap → List ℕ → Applied
normalised m operands = over_values (by_kind m operands) (occurring (by_kind m operands) m.results) m.results

-- ---- what is normal, said without the procedure

-- the parameters of an expression from left to right, as often as they stand in it
unfoldable pub parameters : Expr → List Leaf
parameters (Param leaf) = leaf ∷ []
parameters (Const z) = []
parameters (Neg' s (more_of-Expr a end_of-Expr)) = parameters a
parameters (Add' s (more_of-Expr a end_of-Expr) t (more_of-Expr b end_of-Expr)) = parameters a ++ parameters b
parameters (Sub' s (more_of-Expr a end_of-Expr) t (more_of-Expr b end_of-Expr)) = parameters a ++ parameters b
parameters (Mul' s (more_of-Expr a end_of-Expr) t (more_of-Expr b end_of-Expr)) = parameters a ++ parameters b
parameters (Mod' s (more_of-Expr a end_of-Expr) t (more_of-Expr b end_of-Expr)) = parameters a ++ parameters b
parameters (Floor' s (more_of-Expr a end_of-Expr) t (more_of-Expr b end_of-Expr)) = parameters a ++ parameters b
parameters (Ceil' s (more_of-Expr a end_of-Expr) t (more_of-Expr b end_of-Expr)) = parameters a ++ parameters b

-- those of the results of a map
abbrev pub parameters_of : AffMap → List Leaf
parameters_of m = flat_map parameters m.results

-- the numbers of the dimensions among parameters
abbrev pub dimensions : List Leaf → List ℕ
dimensions [] = []
dimensions (Dim k ∷ ls) = k ∷ dimensions ls
dimensions (Sym k ∷ ls) = dimensions ls

-- and of the symbols
abbrev pub symbols : List Leaf → List ℕ
symbols [] = []
symbols (Dim k ∷ ls) = symbols ls
symbols (Sym k ∷ ls) = k ∷ symbols ls

-- the numbers from 0 to the count less one occur, and no others; and each but 0 stands only after the one below it, so that the first
-- occurrences are 0, 1, 2, .. in order
pub record IsNumbered (count : ℕ) (numbers : List ℕ) : Type 0 where
  pub each : (k : ℕ) → k < count ↔ Contains numbers k
  pub in_order : (i k : ℕ) → i < length numbers → slice_index numbers i ≡ k + 1 → Contains (take i numbers) k

-- as many operands as parameters, the parameters of each kind numbered by first occurrence, and no two of one kind with the same operand
pub record IsNormal (m : AffMap) (operands : List ℕ) : Type 0 where
  pub counts : length operands ≡ m.dims + m.syms
  pub dims_numbered : IsNumbered m.dims (dimensions (parameters_of m))
  pub syms_numbered : IsNumbered m.syms (symbols (parameters_of m))
  pub dims_differ : AllPairs (λ x y. x ≢ y) (take m.dims operands)
  pub syms_differ : AllPairs (λ x y. x ≢ y) (drop m.dims operands)

-- ---- what a map gives at its operands

-- a parameter is one of the map's
abbrev pub IsParameterOf : AffMap → Leaf → Type 0
IsParameterOf m (Dim k) = k < m.dims
IsParameterOf m (Sym k) = k < m.syms

-- the parameters that occur are the map's, and it has as many operands as parameters
pub record IsApplied (m : AffMap) (operands : List ℕ) : Type 0 where
  pub counts : length operands ≡ m.dims + m.syms
  pub parameters : All (IsParameterOf m) (parameters_of m)

-- the values of a map's parameters, where each value has a number of its own
abbrev pub at_operands : (ℕ → ℤ) → AffMap → List ℕ → Leaf → ℤ
at_operands environment m operands = leaves (map environment (take m.dims operands)) (map environment (drop m.dims operands))
