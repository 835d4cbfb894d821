-- What holds of normalised maps.
use Rattle.std.specs.Prelude.{◌≡◌, ℕ, ◌↔◌, ℤ, pos, List, [], ◌∷◌, take, drop, All, Contains}
use Rattle.av_affine.specs.declared.expression.AffMap.{AffMap}
use Rattle.av_affine.specs.declared.expression.Leaf.{Leaf}
use Rattle.av_affine.specs.declared.expression.Leaf.TheVariants.{Dim, Sym}
use Rattle.av_affine.specs.declared.expression.Expr.{Expr}
use Rattle.av_affine.specs.declared.expression.Expr.TheVariants as expr
use Rattle.av_affine.specs.Limits.{Admissible, IsAffine, IsWithin, bound_of, node_count}
use Rattle.av_affine.specs.Results.{values_of}
use Rattle.av_affine_laws.specs.Normalised.{Applied, IsApplied, IsNormal, at_operands, normalised, renamed}

-- a map gives at its operands what its normal form gives at those of the normal form
abbrev pub NormalisedValuesLaw : Type 0
NormalisedValuesLaw =
    (environment : ℕ → ℤ) (m : AffMap) (operands : List ℕ) → IsApplied m operands
    → (let n = normalised m operands in values_of (at_operands environment n.map n.operands) n.map.results)
    ≡ values_of (at_operands environment m operands) m.results

-- what is normalised is normal
abbrev pub NormalisedIsNormalLaw : Type 0
NormalisedIsNormalLaw = (m : AffMap) (operands : List ℕ) → (let n = normalised m operands in IsNormal n.map n.operands)

-- in a normal map each parameter that occurs has an operand
abbrev pub NormalIsAppliedLaw : Type 0
NormalIsAppliedLaw = (m : AffMap) (operands : List ℕ) → IsNormal m operands → IsApplied m operands

-- each operand of the normal form is one that the map has for its parameters of that kind
abbrev pub NormalisedOperandsLaw : Type 0
NormalisedOperandsLaw =
    (m : AffMap) (operands : List ℕ) → IsApplied m operands
    → (let n = normalised m operands in
    All (Contains (take m.dims operands)) (take n.map.dims n.operands)
    × All (Contains (drop m.dims operands)) (drop n.map.dims n.operands))

-- what is normal stays as it is
abbrev pub NormalStaysLaw : Type 0
NormalStaysLaw = (m : AffMap) (operands : List ℕ) → IsNormal m operands → normalised m operands ≡ record { map = m; operands = operands }

-- so normalising once more changes nothing
abbrev pub NormalisedTwiceLaw : Type 0
NormalisedTwiceLaw = (m : AffMap) (operands : List ℕ) → (let n = normalised m operands in normalised n.map n.operands ≡ n)

-- an expression with other parameters has as many nodes, is affine where it was, and has the same bounds
abbrev pub RenamedLimitsLaw : Type 0
RenamedLimitsLaw =
    (f : Leaf → Leaf) (e : Expr)
    → (node_count (renamed f e) ≡ node_count e)
    × (IsAffine (renamed f e) ↔ IsAffine e)
    × (bound_of (renamed f e) ≡ bound_of e)
    × (IsWithin (renamed f e) ↔ IsWithin e)

-- so the results of the normal form are within the limits exactly where those of the map are
abbrev pub NormalisedLimitsLaw : Type 0
NormalisedLimitsLaw = (m : AffMap) (operands : List ℕ) → All Admissible (normalised m operands).map.results ↔ All Admissible m.results

-- ---- examples
abbrev dim : ℕ → Expr
dim k = expr.Param (Dim k)

abbrev sym : ℕ → Expr
sym k = expr.Param (Sym k)

-- (d0, d1, d2)[s0] -> (s0 + d2 mod 4, d0 - d2) at 7, 9, 7 and the symbol 7: d1 doesn't occur, d2 and d0 have one value, and a symbol
-- with that value stays a parameter of its own
abbrev repeated : Applied
repeated = record {
  map = record {
    dims = 3;
    syms = 1;
    results = expr.Add (sym 0) (expr.Mod (dim 2) (expr.Const (pos 4))) ∷ expr.Sub (dim 0) (dim 2) ∷ [];
  };
  operands = 7 ∷ 9 ∷ 7 ∷ 7 ∷ [];
}

-- (d0)[s0] -> (s0 + d0 mod 4, d0 - d0) at 7 and the symbol 7
abbrev repeated_normal : Applied
repeated_normal = record {
  map = record {
    dims = 1;
    syms = 1;
    results = expr.Add (sym 0) (expr.Mod (dim 0) (expr.Const (pos 4))) ∷ expr.Sub (dim 0) (dim 0) ∷ [];
  };
  operands = 7 ∷ 7 ∷ [];
}

-- (d0, d1, d2)[s0, s1] -> (d2, -d1 * s1) at 3, 4, 5 and the symbols 6 and 8: in the order of first occurrence
abbrev turned : Applied
turned = record {
  map = record { dims = 3; syms = 2; results = dim 2 ∷ expr.Mul (expr.Neg (dim 1)) (sym 1) ∷ [] };
  operands = 3 ∷ 4 ∷ 5 ∷ 6 ∷ 8 ∷ [];
}

-- (d0, d1)[s0] -> (d0, -d1 * s0) at 5, 4 and the symbol 8
abbrev turned_normal : Applied
turned_normal = record {
  map = record { dims = 2; syms = 1; results = dim 0 ∷ expr.Mul (expr.Neg (dim 1)) (sym 0) ∷ [] };
  operands = 5 ∷ 4 ∷ 8 ∷ [];
}

-- () -> (2) at no operands, of (d0) -> (2) at 3
abbrev unused : Applied
unused = record { map = record { dims = 1; syms = 0; results = expr.Const (pos 2) ∷ [] }; operands = 3 ∷ [] }

abbrev unused_normal : Applied
unused_normal = record { map = record { dims = 0; syms = 0; results = expr.Const (pos 2) ∷ [] }; operands = [] }

-- one map and its normal form
abbrev Gives : Applied → Applied → Type 0
Gives a b = normalised a.map a.operands ≡ b

abbrev pub NormalisedExamples : Type 0
NormalisedExamples = Gives repeated repeated_normal × Gives turned turned_normal × Gives unused unused_normal
