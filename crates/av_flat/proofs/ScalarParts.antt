-- Parts of what is of Scalar mode.
use Rattle.std.proofs.Common.{◌≡◌, List, [], ◌∷◌, get_or, map, ap, subst, ◌∙◌, refl}
use Rattle.std.specs.List.{All}
use Rattle.std.proofs.lemmas.List.Elements.{All-map, All-head, All-tail}
use Rattle.av_ir.specs.declared.module.Op.{Op, Op-F, roll-Op, out-roll-Op, every-Op, every_here-Op, every_held-Op, every_made-Op}
use Rattle.av_ir.specs.declared.module.Region.{Region, Region-F, roll-Region, out-roll-Region, every-Region, every_held-Region, every_made-Region}
use Rattle.av_ir.specs.WellFormed.{AnyRegion, IsScalarKind, IsScalarOp, IsScalarRegion, OpIsScalar}

all_firsts : {A : Type 0} (P : A → Type 0) (xs : List A) (ys : List ((x : A) × P x)) → map (λ y. y.0) ys ≡ xs → All P xs
all_firsts P xs ys same = subst (All P) same (All-map P (λ y. y.0) ys (λ k d l. (get_or ys k d).1))

module _ (x : Op-F Op Region) (h : IsScalarOp (roll-Op x)) where
  pub kind_is_scalar : IsScalarKind x.kind
  unfolding IsScalarOp IsScalarRegion
  kind_is_scalar = subst (λ (y : Op-F Op Region). IsScalarKind y.kind) (out-roll-Op x) (every_here-Op OpIsScalar AnyRegion (roll-Op x) h)

  pub regions_are_scalar : All IsScalarRegion x.regions
  unfolding IsScalarOp IsScalarRegion
  regions_are_scalar =
      let held = every_held-Op OpIsScalar AnyRegion (roll-Op x) h in
      all_firsts IsScalarRegion x.regions held.0.regions (ap (λ o. o.regions) held.1 ∙ ap (λ (y : Op-F Op Region). y.regions) (out-roll-Op x))

module _ (x : Region-F Op Region) (h : IsScalarRegion (roll-Region x)) where
  pub ops_are_scalar : All IsScalarOp x.ops
  unfolding IsScalarOp IsScalarRegion
  ops_are_scalar =
      let held = every_held-Region OpIsScalar AnyRegion (roll-Region x) h in
      all_firsts IsScalarOp x.ops held.0.ops (ap (λ r. r.ops) held.1 ∙ ap (λ (y : Region-F Op Region). y.ops) (out-roll-Region x))

-- ---- from parts to the whole
pairs : {A : Type 0} (P : A → Type 0) (xs : List A) → All P xs → List ((x : A) × P x)
pairs P [] h = []
pairs P (x ∷ xs) h = (x, All-head P x xs h) ∷ pairs P xs (All-tail P x xs h)

firsts : {A : Type 0} (P : A → Type 0) (xs : List A) (h : All P xs) → map (λ y. y.0) (pairs P xs h) ≡ xs
unfolding pairs
firsts P [] h = refl
firsts P (x ∷ xs) h = ap (λ l. x ∷ l) (firsts P xs (All-tail P x xs h))

pub scalar_if : (x : Op-F Op Region) → IsScalarKind x.kind → All IsScalarRegion x.regions → IsScalarOp (roll-Op x)
unfolding IsScalarOp IsScalarRegion
scalar_if x kind regions =
    every_made-Op OpIsScalar AnyRegion x
    (record { number = x.number; kind = x.kind; operands = x.operands; results = x.results; regions = pairs (every-Region OpIsScalar AnyRegion) x.regions regions; marks = x.marks })
    (λ i. record { number = x.number; kind = x.kind; operands = x.operands; results = x.results; regions = (firsts (every-Region OpIsScalar AnyRegion) x.regions regions) i; marks = x.marks })
    kind

pub region_scalar_if : (x : Region-F Op Region) → All IsScalarOp x.ops → IsScalarRegion (roll-Region x)
unfolding IsScalarOp IsScalarRegion
region_scalar_if x ops =
    every_made-Region OpIsScalar AnyRegion x
    (record { args = x.args; ops = pairs (every-Op OpIsScalar AnyRegion) x.ops ops })
    (λ i. record { args = x.args; ops = (firsts (every-Op OpIsScalar AnyRegion) x.ops ops) i })
    tt
