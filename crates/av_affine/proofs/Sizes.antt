-- The factors of a form are within the bound of its expression.
use Rattle.std.proofs.Common.{◌≡◌, ℕ, ◌+◌, ◌*◌, ◌^◌, ◌≤◌, List, [], ◌∷◌, inl, inr, cond, refl, sym, ap, subst, arith}
use Rattle.std.specs.Prelude.{ℤ, pos, negsuc, ◌+ℤ◌, ◌*ℤ◌, ◌≤ℤ◌, unsigned_abs}
use Rattle.std.specs.Ordering.{int_eq}
use Rattle.std.proofs.lemmas.Int.{ints, unsigned_abs-mul}
use Rattle.std.proofs.Math.Nat.{mul_comm}
use Rattle.av_affine.specs.declared.expression.Leaf.{Leaf}
use Rattle.av_affine.specs.declared.expression.Expr.{Expr, Param, Const, Neg', Add', Sub', Mul', Mod', Floor', Ceil', end_of-Expr, more_of-Expr}
use Rattle.av_affine.specs.declared.linear.DivKind.{DivKind}
use Rattle.av_affine.specs.declared.linear.DivKind.TheVariants.{Mod, Floor, Ceil}
use Rattle.av_affine.specs.declared.linear.Term.{Term}
use Rattle.av_affine.specs.declared.linear.Linear.{roll-Linear}
use Rattle.av_affine.specs.declared.linear.Opaque.{Opaque, Opaque'}
use Rattle.av_affine.specs.Values.{leaves}
use Rattle.av_affine.specs.Limits.{constant_value, IsDivisor, IsAffine, IsWithin, bound_of}
use Rattle.av_affine.specs.Forms.{divide, same_leaf, same_division, is_before, term_unless_zero, opaque_unless_zero, factor_of, add_term, add_opaque, add_terms, add_opaques, scale_terms, scale_opaques, Parts, constant_parts, joined, scaled, product_by, division_of, divided, parts_of}
use Rattle.av_affine.specs.Sizes.{terms_size, opaques_size, parts_size, SizeLaw}
use Rattle.av_affine.proofs.FormValues.{choose}
use Rattle.av_affine.proofs.Bounded.{abs-sum, mul-mono, abs-remainder, abs-floor, abs-ceil}
use Rattle.av_affine.proofs.ExprForms.{constant-parts}

-- ---- terms
term_unless_zero-size : (leaf : Leaf) (f : ℤ) (ts : List Term) → terms_size (term_unless_zero leaf f ts) ≤ unsigned_abs f + terms_size ts
unfolding terms_size
term_unless_zero-size leaf f ts =
    choose (λ us. terms_size us ≤ unsigned_abs f + terms_size ts) (int_eq f (pos 0)) ts (record { leaf = leaf; factor = f } ∷ ts)
    (λ h. omega arith) (λ h. omega arith)

pub add_term-size : (u : Term) (ts : List Term) → terms_size (add_term u ts) ≤ terms_size ts + unsigned_abs u.factor
unfolding terms_size add_term
add_term-size u [] = omega arith
add_term-size u (t ∷ ts) =
    let P : List Term → Type 0 = λ us. terms_size us ≤ unsigned_abs t.factor + terms_size ts + unsigned_abs u.factor in
    choose P (same_leaf u.leaf t.leaf) (term_unless_zero t.leaf (t.factor +ℤ u.factor) ts) (cond (is_before u.leaf t.leaf) (u ∷ (t ∷ ts)) (t ∷ add_term u ts))
    (λ h. omega (arith, term_unless_zero-size t.leaf (t.factor +ℤ u.factor) ts, abs-sum t.factor u.factor))
    (λ h. choose P (is_before u.leaf t.leaf) (u ∷ (t ∷ ts)) (t ∷ add_term u ts) (λ k. omega arith) (λ k. omega (arith, add_term-size u ts)))

pub add_terms-size : (ts us : List Term) → terms_size (add_terms ts us) ≤ terms_size ts + terms_size us
unfolding terms_size add_terms
add_terms-size ts [] = omega arith
add_terms-size ts (u ∷ us) = omega (arith, add_terms-size (add_term u ts) us, add_term-size u ts)

scaled_sum : (a b k m n : ℕ) → m ≤ a * k → n ≤ b * k → m + n ≤ (a + b) * k
scaled_sum a b k m n h g = omega arith

pub scale_terms-size : (k : ℤ) (ts : List Term) → terms_size (scale_terms k ts) ≤ terms_size ts * unsigned_abs k
unfolding terms_size scale_terms
scale_terms-size k [] = omega arith
scale_terms-size k (t ∷ ts) =
    let e = unsigned_abs-mul t.factor k in
    let s = scaled_sum (unsigned_abs t.factor) (terms_size ts) (unsigned_abs k) (unsigned_abs (t.factor *ℤ k)) (terms_size (scale_terms k ts)) (omega arith) (scale_terms-size k ts) in
    omega (arith, term_unless_zero-size t.leaf (t.factor *ℤ k) (scale_terms k ts))

-- ---- opaque terms
opaque_unless_zero-size : (o : Opaque) (f : ℤ) (os : List Opaque) → opaques_size (opaque_unless_zero o f os) ≤ unsigned_abs f + opaques_size os
unfolding opaques_size
opaque_unless_zero-size (Opaque' k l d g) f os =
    choose (λ us. opaques_size us ≤ unsigned_abs f + opaques_size os) (int_eq f (pos 0)) os (Opaque' k l d f ∷ os)
    (λ h. omega arith) (λ h. omega arith)

pub add_opaque-size : (o : Opaque) (ps : List Opaque) → opaques_size (add_opaque o ps) ≤ opaques_size ps + unsigned_abs (factor_of o)
unfolding opaques_size add_opaque
add_opaque-size o [] = omega arith
add_opaque-size o (p ∷ ps) =
    choose (λ us. opaques_size us ≤ unsigned_abs (factor_of p) + opaques_size ps + unsigned_abs (factor_of o)) (same_division o p)
    (opaque_unless_zero p (factor_of p +ℤ factor_of o) ps) (p ∷ add_opaque o ps)
    (λ h. omega (arith, opaque_unless_zero-size p (factor_of p +ℤ factor_of o) ps, abs-sum (factor_of p) (factor_of o)))
    (λ h. omega (arith, add_opaque-size o ps))

pub add_opaques-size : (ps os : List Opaque) → opaques_size (add_opaques ps os) ≤ opaques_size ps + opaques_size os
unfolding opaques_size add_opaques
add_opaques-size ps [] = omega arith
add_opaques-size ps (o ∷ os) = omega (arith, add_opaques-size (add_opaque o ps) os, add_opaque-size o ps)

pub scale_opaques-size : (k : ℤ) (os : List Opaque) → opaques_size (scale_opaques k os) ≤ opaques_size os * unsigned_abs k
unfolding opaques_size scale_opaques
scale_opaques-size k [] = omega arith
scale_opaques-size k (o ∷ os) =
    let e = unsigned_abs-mul (factor_of o) k in
    let s = scaled_sum (unsigned_abs (factor_of o)) (opaques_size os) (unsigned_abs k) (unsigned_abs (factor_of o *ℤ k)) (opaques_size (scale_opaques k os)) (omega arith) (scale_opaques-size k os) in
    omega (arith, opaque_unless_zero-size o (factor_of o *ℤ k) (scale_opaques k os))

-- ---- forms
pub joined-size : (p q : Parts) → parts_size (joined p q) ≤ parts_size p + parts_size q
joined-size p q = omega (arith, add_terms-size p.terms q.terms, add_opaques-size p.opaque q.opaque, abs-sum p.constant q.constant)

pub scaled-size : (k : ℤ) (p : Parts) → parts_size (scaled k p) ≤ parts_size p * unsigned_abs k
scaled-size k p =
    let c = unsigned_abs-mul p.constant k in
    let s = scaled_sum (terms_size p.terms) (opaques_size p.opaque) (unsigned_abs k) (terms_size (scale_terms k p.terms)) (opaques_size (scale_opaques k p.opaque)) (scale_terms-size k p.terms) (scale_opaques-size k p.opaque) in
    scaled_sum (terms_size p.terms + opaques_size p.opaque) (unsigned_abs p.constant) (unsigned_abs k) (terms_size (scale_terms k p.terms) + opaques_size (scale_opaques k p.opaque)) (unsigned_abs (p.constant *ℤ k)) s (omega arith)

constant-size : (z : ℤ) → parts_size (constant_parts z) ≡ unsigned_abs z
unfolding terms_size opaques_size
constant-size z = omega arith

opaque-size : (kind : DivKind) (p : Parts) (d : ℤ) → parts_size (record { terms = []; opaque = Opaque' kind (roll-Linear p) d (pos 1) ∷ []; constant = pos 0 }) ≤ 1
unfolding terms_size opaques_size
opaque-size kind p d = omega arith

-- a product by a form whose size is at most m, of a constant of at most n
product-size : (x : ℤ) (ts : List Term) (os : List Opaque) (q : Parts) (m n : ℕ) → ts ≡ q.terms → os ≡ q.opaque → parts_size q ≤ m → unsigned_abs x ≤ n
    → parts_size (product_by ts os (constant_parts x) q) ≤ n * m
product-size x [] [] q m n e f h g =
    let c = constant-size x in
    let t = mul-mono (parts_size (constant_parts x)) (unsigned_abs q.constant) n m (omega arith) (omega arith) in
    omega (arith, scaled-size q.constant (constant_parts x))
product-size x (t ∷ ts) os q m n e f h g =
    let t = mul-mono (parts_size q) (unsigned_abs x) m n h g in omega (arith, scaled-size x q, mul_comm m n)
product-size x [] (o ∷ os) q m n e f h g =
    let t = mul-mono (parts_size q) (unsigned_abs x) m n h g in omega (arith, scaled-size x q, mul_comm m n)

-- a division, of which the constant one has at most m and m is at least 1
division-size : (ts : List Term) (os : List Opaque) (kind : DivKind) (p : Parts) (d : ℤ) (m : ℕ) → unsigned_abs (divide kind p.constant d) ≤ m → 1 ≤ m
    → parts_size (division_of ts os kind p d) ≤ m
division-size [] [] kind p d m h g = omega (arith, constant-size (divide kind p.constant d))
division-size (t ∷ ts) os kind p d m h g = omega (arith, opaque-size kind p d)
division-size [] (o ∷ os) kind p d m h g = omega (arith, opaque-size kind p d)

divided-size : (kind : DivKind) (p : Parts) (b : Expr) (m : ℕ) → IsDivisor b → unsigned_abs (divide kind p.constant (constant_value b)) ≤ m → 1 ≤ m
    → parts_size (divided kind p (parts_of b)) ≤ m
divided-size kind p b m d h g =
    let same : parts_of b ≡ constant_parts (constant_value b) = constant-parts (leaves [] []) b d.0 in
    subst (λ q. parts_size (divided kind p q) ≤ m) (sym same) (division-size p.terms p.opaque kind p (constant_value b) m h g)

at_least_one : (z : ℤ) → pos 1 ≤ℤ z → 1 ≤ unsigned_abs z
at_least_one (pos n) h = omega (arith, ints)
at_least_one (negsuc n) h = absurd (omega (arith, ints))

times_one : (n : ℕ) → n * unsigned_abs (negsuc 0) ≡ n
times_one n = omega arith

param_size : (leaf : Leaf) → parts_size (record { terms = record { leaf = leaf; factor = pos 1 } ∷ []; opaque = []; constant = pos 0 }) ≤ 2 ^ 63
unfolding terms_size opaques_size
param_size leaf = omega arith

pub parts-size : SizeLaw
unfolding parts_of bound_of IsAffine IsWithin
parts-size (Param leaf) h w = param_size leaf
parts-size (Const z) h w = omega (arith, constant-size z)
parts-size (Neg' s (more_of-Expr a end_of-Expr)) h w =
    omega (arith, scaled-size (negsuc 0) (parts_of a), times_one (parts_size (parts_of a)), parts-size a h w)
parts-size (Add' s (more_of-Expr a end_of-Expr) t (more_of-Expr b end_of-Expr)) h w =
    omega (arith, joined-size (parts_of a) (parts_of b), parts-size a h.0 w.0, parts-size b h.1 w.1)
parts-size (Sub' s (more_of-Expr a end_of-Expr) t (more_of-Expr b end_of-Expr)) h w =
    omega (arith, joined-size (parts_of a) (scaled (negsuc 0) (parts_of b)), scaled-size (negsuc 0) (parts_of b), times_one (parts_size (parts_of b)), parts-size a h.0 w.0, parts-size b h.1 w.1)
parts-size (Mul' s (more_of-Expr a end_of-Expr) t (more_of-Expr b end_of-Expr)) h w =
    elim h.2 as (λ u. parts_size (product_by (parts_of b).terms (parts_of b).opaque (parts_of a) (parts_of b)) ≤ bound_of a * bound_of b) [
      | inl k ↦
          let same : parts_of a ≡ constant_parts (constant_value a) = constant-parts (leaves [] []) a k in
          let small : unsigned_abs (constant_value a) ≤ bound_of a = omega (arith, parts-size a h.0 w.0, ap parts_size same, constant-size (constant_value a)) in
          subst (λ q. parts_size (product_by (parts_of b).terms (parts_of b).opaque q (parts_of b)) ≤ bound_of a * bound_of b) (sym same)
          (product-size (constant_value a) (parts_of b).terms (parts_of b).opaque (parts_of b) (bound_of b) (bound_of a) refl refl (parts-size b h.1 w.1) small)
      | inr k ↦
          let same : parts_of b ≡ constant_parts (constant_value b) = constant-parts (leaves [] []) b k in
          let small : unsigned_abs (constant_value b) ≤ bound_of b = omega (arith, parts-size b h.1 w.1, ap parts_size same, constant-size (constant_value b)) in
          let scales : parts_size (scaled (constant_value b) (parts_of a)) ≤ bound_of a * bound_of b =
          omega (arith, scaled-size (constant_value b) (parts_of a), mul-mono (parts_size (parts_of a)) (unsigned_abs (constant_value b)) (bound_of a) (bound_of b) (parts-size a h.0 w.0) small) in
          subst (λ q. parts_size (product_by q.terms q.opaque (parts_of a) q) ≤ bound_of a * bound_of b) (sym same) scales
    ]
parts-size (Mod' s (more_of-Expr a end_of-Expr) t (more_of-Expr b end_of-Expr)) h w =
    divided-size Mod (parts_of a) b (unsigned_abs (constant_value b)) h.2 (abs-remainder (parts_of a).constant (constant_value b) h.2.1) (at_least_one (constant_value b) h.2.1)
parts-size (Floor' s (more_of-Expr a end_of-Expr) t (more_of-Expr b end_of-Expr)) h w =
    divided-size Floor (parts_of a) b (bound_of a + 1) h.2 (omega (arith, abs-floor (parts_of a).constant (constant_value b) h.2.1, parts-size a h.0 w.0)) (omega arith)
parts-size (Ceil' s (more_of-Expr a end_of-Expr) t (more_of-Expr b end_of-Expr)) h w =
    divided-size Ceil (parts_of a) b (bound_of a + 1) h.2 (omega (arith, abs-ceil (parts_of a).constant (constant_value b) h.2.1, parts-size a h.0 w.0)) (omega arith)
