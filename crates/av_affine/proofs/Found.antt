-- The test of the limits finds the bound exactly where an expression is affine and within the limit.
use Rattle.std.proofs.Common.{◌≡◌, ℕ, ◌+◌, ◌*◌, ◌^◌, ◌≤◌, Option, Some, None, refl, sym, ap, ◌∙◌, arith, inl, inr}
use Rattle.std.specs.Option.{is_some}
use Rattle.std.specs.Prelude.{ℤ, pos, negsuc, ◌≤ℤ◌, unsigned_abs, ◌⊎◌, Bool, true, false, ◌&&◌, IsFalse, IsTrue}
use Rattle.std.proofs.lemmas.Bool.Decides.{nat_tests}
use Rattle.std.proofs.lemmas.Int.{ints}
use Rattle.av_affine.specs.declared.expression.Expr.{Expr, Param, Const, Neg', Add', Sub', Mul', Mod', Floor', Ceil', end_of-Expr, more_of-Expr}
use Rattle.av_affine.specs.Limits.{has_parameter, constant_value, IsAffine, bound_of, IsWithin}
use Rattle.av_affine.specs.Finding.{bound_found, limited, sum_found, product_found, divisor_found, remainder_found, quotient_found}
use Rattle.av_affine.proofs.Variants.{IsSound}

limited-some : (m n : ℕ) → limited m ≡ Some n → (n ≡ m) × (m ≤ 2 ^ 110)
limited-some m n h = grind (arith, nat_tests)

some-limited : (m : ℕ) → m ≤ 2 ^ 110 → limited m ≡ Some m
some-limited m h = grind (arith, nat_tests)

-- what two parts gave, where a sum was found
abbrev FromBoth : (ℕ → ℕ → ℕ) → Option ℕ → Option ℕ → ℕ → Type 0
FromBoth f x y n = (p : ℕ) × ((q : ℕ) × ((x ≡ Some p) × (y ≡ Some q) × (n ≡ f p q) × (f p q ≤ 2 ^ 110)))

sum_parts : (x y : Option ℕ) (n : ℕ) → sum_found x y ≡ Some n → FromBoth (λ p q. p + q) x y n
sum_parts (Some p) (Some q) n h = let l = limited-some (p + q) n h in (p, (q, (refl, refl, l.0, l.1)))
sum_parts (Some p) None n h = absurd (cc)
sum_parts None y n h = absurd (cc)

product_parts : (v : Bool) (x y : Option ℕ) (n : ℕ) → product_found v x y ≡ Some n → IsFalse v × FromBoth (λ p q. p * q) x y n
product_parts false (Some p) (Some q) n h = let l = limited-some (p * q) n h in (grind arith, (p, (q, (refl, refl, l.0, l.1))))
product_parts true (Some p) (Some q) n h = absurd (cc)
product_parts false (Some p) None n h = absurd (cc)
product_parts true (Some p) None n h = absurd (cc)
product_parts false None y n h = absurd (cc)
product_parts true None y n h = absurd (cc)

remainder_parts : (x d : Option ℕ) (n : ℕ) → remainder_found x d ≡ Some n → FromBoth (λ p q. q) x d n
remainder_parts (Some p) (Some q) n h = let l = limited-some q n h in (p, (q, (refl, refl, l.0, l.1)))
remainder_parts (Some p) None n h = absurd (cc)
remainder_parts None d n h = absurd (cc)

quotient_parts : (x d : Option ℕ) (n : ℕ) → quotient_found x d ≡ Some n → FromBoth (λ p q. p + 1) x d n
quotient_parts (Some p) (Some q) n h = let l = limited-some (p + 1) n h in (p, (q, (refl, refl, l.0, l.1)))
quotient_parts (Some p) None n h = absurd (cc)
quotient_parts None d n h = absurd (cc)

divisor_parts : (x : Option ℕ) (v : Bool) (z : ℤ) (q : ℕ) → divisor_found x v z ≡ Some q
    → (p : ℕ) × ((x ≡ Some p) × IsFalse v × (pos 1 ≤ℤ z) × (q ≡ unsigned_abs z))
divisor_parts None v z q h = absurd (cc)
divisor_parts (Some p) true z q h = absurd (cc)
divisor_parts (Some p) false (pos k) q h = (p, (refl, grind arith, grind (arith, nat_tests), grind (arith, nat_tests)))
divisor_parts (Some p) false (negsuc k) q h = absurd (cc)

divisor-some : (x : Option ℕ) (v : Bool) (z : ℤ) (p : ℕ) → x ≡ Some p → IsFalse v → pos 1 ≤ℤ z → divisor_found x v z ≡ Some (unsigned_abs z)
divisor-some None v z p e f h = absurd (cc)
divisor-some (Some p) true z q e f h = absurd (grind arith)
divisor-some (Some p) false (pos k) q e f h = grind (arith, nat_tests)
divisor-some (Some p) false (negsuc k) q e f h = absurd (omega (arith, ints))

one_false : (a b : Bool) → IsFalse (a && b) → IsFalse a ⊎ IsFalse b
one_false false b h = inl (grind arith)
one_false true b h = inr h

both_false : (a b : Bool) → IsFalse a ⊎ IsFalse b → a && b ≡ false
both_false false b h = refl
both_false true false h = refl
both_false true true (inl h) = grind arith
both_false true true (inr h) = grind arith

-- a bound that was found
abbrev pub Found : Expr → ℕ → Type 0
Found e n = IsSound e × (n ≡ bound_of e) × (n ≤ 2 ^ 110)

pub found-sound : (e : Expr) (n : ℕ) → bound_found e ≡ Some n → Found e n
unfolding bound_found IsAffine IsWithin bound_of
found-sound (Param leaf) n h = ((tt, tt), cc, grind arith)
found-sound (Const z) n h = let l = limited-some (unsigned_abs z) n h in ((tt, l.1), l.0, omega arith)
found-sound (Neg' s (more_of-Expr a end_of-Expr)) n h = found-sound a n h
found-sound (Add' s (more_of-Expr a end_of-Expr) t (more_of-Expr b end_of-Expr)) n h =
    let p = sum_parts (bound_found a) (bound_found b) n h in
    let l : Found a p.0 = found-sound a p.0 p.1.1.0 in
    let r : Found b p.1.0 = found-sound b p.1.0 p.1.1.1 in
    (((l.0.0, r.0.0), (l.0.1, r.0.1, omega arith)), omega arith, omega arith)
found-sound (Sub' s (more_of-Expr a end_of-Expr) t (more_of-Expr b end_of-Expr)) n h =
    let p = sum_parts (bound_found a) (bound_found b) n h in
    let l : Found a p.0 = found-sound a p.0 p.1.1.0 in
    let r : Found b p.1.0 = found-sound b p.1.0 p.1.1.1 in
    (((l.0.0, r.0.0), (l.0.1, r.0.1, omega arith)), omega arith, omega arith)
found-sound (Mul' s (more_of-Expr a end_of-Expr) t (more_of-Expr b end_of-Expr)) n h =
    let p = product_parts (has_parameter a && has_parameter b) (bound_found a) (bound_found b) n h in
    let l : Found a p.1.0 = found-sound a p.1.0 p.1.1.1.0 in
    let r : Found b p.1.1.0 = found-sound b p.1.1.0 p.1.1.1.1 in
    let same : p.1.0 * p.1.1.0 ≡ bound_of a * bound_of b = cc in
    (((l.0.0, r.0.0, one_false (has_parameter a) (has_parameter b) p.0), (l.0.1, r.0.1, omega arith)), omega arith, omega arith)
found-sound (Mod' s (more_of-Expr a end_of-Expr) t (more_of-Expr b end_of-Expr)) n h =
    let p = remainder_parts (bound_found a) (divisor_found (bound_found b) (has_parameter b) (constant_value b)) n h in
    let q = divisor_parts (bound_found b) (has_parameter b) (constant_value b) p.1.0 p.1.1.1 in
    let l : Found a p.0 = found-sound a p.0 p.1.1.0 in
    let r : Found b q.0 = found-sound b q.0 q.1.0 in
    (((l.0.0, r.0.0, (q.1.1, q.1.2)), (l.0.1, r.0.1, omega arith)), omega arith, omega arith)
found-sound (Floor' s (more_of-Expr a end_of-Expr) t (more_of-Expr b end_of-Expr)) n h =
    let p = quotient_parts (bound_found a) (divisor_found (bound_found b) (has_parameter b) (constant_value b)) n h in
    let q = divisor_parts (bound_found b) (has_parameter b) (constant_value b) p.1.0 p.1.1.1 in
    let l : Found a p.0 = found-sound a p.0 p.1.1.0 in
    let r : Found b q.0 = found-sound b q.0 q.1.0 in
    (((l.0.0, r.0.0, (q.1.1, q.1.2)), (l.0.1, r.0.1, omega arith)), omega arith, omega arith)
found-sound (Ceil' s (more_of-Expr a end_of-Expr) t (more_of-Expr b end_of-Expr)) n h =
    let p = quotient_parts (bound_found a) (divisor_found (bound_found b) (has_parameter b) (constant_value b)) n h in
    let q = divisor_parts (bound_found b) (has_parameter b) (constant_value b) p.1.0 p.1.1.1 in
    let l : Found a p.0 = found-sound a p.0 p.1.1.0 in
    let r : Found b q.0 = found-sound b q.0 q.1.0 in
    (((l.0.0, r.0.0, (q.1.1, q.1.2)), (l.0.1, r.0.1, omega arith)), omega arith, omega arith)

pub sound-found : (e : Expr) → IsSound e → bound_found e ≡ Some (bound_of e)
unfolding bound_found IsAffine IsWithin bound_of
sound-found (Param leaf) h = refl
sound-found (Const z) h = some-limited (unsigned_abs z) h.1
sound-found (Neg' s (more_of-Expr a end_of-Expr)) h = sound-found a h
sound-found (Add' s (more_of-Expr a end_of-Expr) t (more_of-Expr b end_of-Expr)) h =
    let l = sound-found a (h.0.0, h.1.0) in
    let r = sound-found b (h.0.1, h.1.1) in
    ap (λ x. sum_found x (bound_found b)) l ∙ ap (sum_found (Some (bound_of a))) r ∙ some-limited (bound_of a + bound_of b) h.1.2
sound-found (Sub' s (more_of-Expr a end_of-Expr) t (more_of-Expr b end_of-Expr)) h =
    let l = sound-found a (h.0.0, h.1.0) in
    let r = sound-found b (h.0.1, h.1.1) in
    ap (λ x. sum_found x (bound_found b)) l ∙ ap (sum_found (Some (bound_of a))) r ∙ some-limited (bound_of a + bound_of b) h.1.2
sound-found (Mul' s (more_of-Expr a end_of-Expr) t (more_of-Expr b end_of-Expr)) h =
    let l = sound-found a (h.0.0, h.1.0) in
    let r = sound-found b (h.0.1, h.1.1) in
    let v = both_false (has_parameter a) (has_parameter b) h.0.2 in
    ap (λ w. product_found w (bound_found a) (bound_found b)) v ∙ ap (λ x. product_found false x (bound_found b)) l
    ∙ ap (product_found false (Some (bound_of a))) r ∙ some-limited (bound_of a * bound_of b) h.1.2
sound-found (Mod' s (more_of-Expr a end_of-Expr) t (more_of-Expr b end_of-Expr)) h =
    let l = sound-found a (h.0.0, h.1.0) in
    let r = sound-found b (h.0.1, h.1.1) in
    let d = divisor-some (bound_found b) (has_parameter b) (constant_value b) (bound_of b) r h.0.2.0 h.0.2.1 in
    ap (λ x. remainder_found x (divisor_found (bound_found b) (has_parameter b) (constant_value b))) l
    ∙ ap (remainder_found (Some (bound_of a))) d ∙ some-limited (unsigned_abs (constant_value b)) h.1.2
sound-found (Floor' s (more_of-Expr a end_of-Expr) t (more_of-Expr b end_of-Expr)) h =
    let l = sound-found a (h.0.0, h.1.0) in
    let r = sound-found b (h.0.1, h.1.1) in
    let d = divisor-some (bound_found b) (has_parameter b) (constant_value b) (bound_of b) r h.0.2.0 h.0.2.1 in
    ap (λ x. quotient_found x (divisor_found (bound_found b) (has_parameter b) (constant_value b))) l
    ∙ ap (quotient_found (Some (bound_of a))) d ∙ some-limited (bound_of a + 1) h.1.2
sound-found (Ceil' s (more_of-Expr a end_of-Expr) t (more_of-Expr b end_of-Expr)) h =
    let l = sound-found a (h.0.0, h.1.0) in
    let r = sound-found b (h.0.1, h.1.1) in
    let d = divisor-some (bound_found b) (has_parameter b) (constant_value b) (bound_of b) r h.0.2.0 h.0.2.1 in
    ap (λ x. quotient_found x (divisor_found (bound_found b) (has_parameter b) (constant_value b))) l
    ∙ ap (quotient_found (Some (bound_of a))) d ∙ some-limited (bound_of a + 1) h.1.2

-- the bound of all that is affine and within the limit
pub sound-bound : (e : Expr) → IsSound e → bound_of e ≤ 2 ^ 110
sound-bound e h = (found-sound e (bound_of e) (sound-found e h)).2

-- the test's answer
pub tested-sound : (e : Expr) (o : Option ℕ) (r : Bool) → o ≡ bound_found e → r ≡ is_some o → IsTrue r → IsSound e
tested-sound e (Some n) r h k t = (found-sound e n (sym h)).0
tested-sound e None r h k t = absurd (grind arith)

pub tested-found : (e : Expr) (o : Option ℕ) (r : Bool) → o ≡ bound_found e → r ≡ is_some o → IsSound e → IsTrue r
tested-found e o r h k s = let f = h ∙ sound-found e s in let g : r ≡ true = k ∙ ap is_some f in grind arith

-- for the test's own proof
pub ruleset tested = (found-sound, sound-found)
