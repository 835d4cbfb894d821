-- The value of an expression is within its bound, and so no step of its computation overflows.
use Rattle.std.proofs.Common.{◌≡◌, ℕ, zero, suc, ◌+◌, ◌*◌, ◌/◌, ◌^◌, ◌≤◌, refl, sym, ap, ◌∙◌, subst, arith}
use Rattle.std.specs.Prelude.{ℤ, pos, negsuc, neg_ℤ, ◌+ℤ◌, ◌-ℤ◌, ◌*ℤ◌, ◌≤ℤ◌, unsigned_abs, ◌⊎◌, Bool, true, false, ◌||◌, IsFalse, []}
use Rattle.std.proofs.Math.Nat.{mul-le-mul_left}
use Rattle.std.proofs.lemmas.Int.{ints, to_z-of_z, fits_signed_from_abs, unsigned_abs-mul}
use mir.Syntax.{w128}
use mir.Val.{to_z, of_z}
use Rattle.av_affine.specs.declared.expression.Leaf.{Leaf}
use Rattle.av_affine.specs.declared.expression.Expr.{Expr, Param, Const, Neg', Add', Sub', Mul', Mod', Floor', Ceil', end_of-Expr, more_of-Expr}
use Rattle.av_affine.specs.declared.expression.Expr.TheVariants.{Neg, Add, Sub, Mul, Mod, Floor, Ceil}
use Rattle.av_affine.specs.Values.{value_of, leaves, remainder, floor_quotient, ceil_quotient}
use Rattle.av_affine.specs.Limits.{has_parameter, constant_value, IsDivisor, bound_of}
use Rattle.av_affine.proofs.Variants.{IsSound, value_of-Param, value_of-Const, bound_of-Param, bound_of-Const, value_of-Neg, value_of-Add, value_of-Sub, value_of-Mul, value_of-Mod, value_of-Floor, value_of-Ceil, bound_of-Neg, bound_of-Add, bound_of-Sub, bound_of-Mul, bound_of-Mod, bound_of-Floor, bound_of-Ceil, sound-Neg, sound-Add, sound-Sub, sound-Mul, sound-Mod, sound-Floor, sound-Ceil}
use Rattle.av_affine.proofs.Found.{sound-bound}

-- ---- magnitudes
pub abs-neg : (x : ℤ) → unsigned_abs (neg_ℤ x) ≡ unsigned_abs x
abs-neg (pos zero) = refl
abs-neg (pos (suc n)) = refl
abs-neg (negsuc n) = refl

pub abs-sum : (x y : ℤ) → unsigned_abs (x +ℤ y) ≤ unsigned_abs x + unsigned_abs y
abs-sum (pos a) (pos b) = omega arith
abs-sum (pos a) (negsuc b) = omega (arith, ints)
abs-sum (negsuc a) (pos b) = omega (arith, ints)
abs-sum (negsuc a) (negsuc b) = omega arith

pub abs-difference : (x y : ℤ) → unsigned_abs (x -ℤ y) ≤ unsigned_abs x + unsigned_abs y
abs-difference x y = let h : unsigned_abs (x +ℤ neg_ℤ y) ≤ unsigned_abs x + unsigned_abs (neg_ℤ y) = abs-sum x (neg_ℤ y) in rw (abs-neg y) at h

pub mul-mono : (a b m n : ℕ) → a ≤ m → b ≤ n → a * b ≤ m * n
mul-mono a b m n h k = grind (arith, mul-le-mul_left)

pub abs-product : (x y : ℤ) (m n : ℕ) → unsigned_abs x ≤ m → unsigned_abs y ≤ n → unsigned_abs (x *ℤ y) ≤ m * n
abs-product x y m n h k = rw (unsigned_abs-mul x y) (mul-mono (unsigned_abs x) (unsigned_abs y) m n h k)

pub abs-remainder : (x d : ℤ) → pos 1 ≤ℤ d → unsigned_abs (remainder x d) ≤ unsigned_abs d
abs-remainder (pos a) (pos d) h = omega (arith, ints)
abs-remainder (negsuc a) (pos d) h = omega (arith, ints)
abs-remainder x (negsuc d) h = absurd (omega (arith, ints))

quotient-le : (a d : ℕ) → a / d ≤ a
quotient-le a d = omega arith

pub abs-floor : (x d : ℤ) → pos 1 ≤ℤ d → unsigned_abs (floor_quotient x d) ≤ unsigned_abs x + 1
abs-floor (pos a) (pos d) h = omega (arith, quotient-le a d)
abs-floor (negsuc a) (pos d) h = omega (arith, quotient-le a d)
abs-floor x (negsuc d) h = absurd (omega (arith, ints))

pub abs-ceil : (x d : ℤ) → pos 1 ≤ℤ d → unsigned_abs (ceil_quotient x d) ≤ unsigned_abs x + 1
abs-ceil x d h = rw (abs-neg (floor_quotient (neg_ℤ x) d)) (let k = abs-floor (neg_ℤ x) d h in rw (abs-neg x) at k)

-- ---- numbers as the machine keeps them
pub kept : (x : ℤ) → unsigned_abs x ≤ 2 ^ 110 → to_z w128 (of_z w128 x) ≡ x
kept x h = to_z-of_z w128 x (fits_signed_from_abs w128 x (omega arith))

-- ---- expressions without parameters
pub or_false : (a b : Bool) → IsFalse (a || b) → IsFalse a × IsFalse b
or_false true b h = (h, absurd (grind arith))
or_false false b h = (grind arith, h)

pub constant-same : (at other : Leaf → ℤ) (e : Expr) → IsFalse (has_parameter e) → value_of at e ≡ value_of other e
unfolding value_of has_parameter
constant-same at other (Param leaf) h = absurd (grind arith)
constant-same at other (Const z) h = refl
constant-same at other (Neg' s (more_of-Expr a end_of-Expr)) h = ap neg_ℤ (constant-same at other a h)
constant-same at other (Add' s (more_of-Expr a end_of-Expr) t (more_of-Expr b end_of-Expr)) h =
    let p = or_false (has_parameter a) (has_parameter b) h in
    let l = constant-same at other a p.0 in let r = constant-same at other b p.1 in
    ap (λ q. ◌+ℤ◌ q (value_of at b)) l ∙ ap (◌+ℤ◌ (value_of other a)) r
constant-same at other (Sub' s (more_of-Expr a end_of-Expr) t (more_of-Expr b end_of-Expr)) h =
    let p = or_false (has_parameter a) (has_parameter b) h in
    let l = constant-same at other a p.0 in let r = constant-same at other b p.1 in
    ap (λ q. ◌-ℤ◌ q (value_of at b)) l ∙ ap (◌-ℤ◌ (value_of other a)) r
constant-same at other (Mul' s (more_of-Expr a end_of-Expr) t (more_of-Expr b end_of-Expr)) h =
    let p = or_false (has_parameter a) (has_parameter b) h in
    let l = constant-same at other a p.0 in let r = constant-same at other b p.1 in
    ap (λ q. ◌*ℤ◌ q (value_of at b)) l ∙ ap (◌*ℤ◌ (value_of other a)) r
constant-same at other (Mod' s (more_of-Expr a end_of-Expr) t (more_of-Expr b end_of-Expr)) h =
    let p = or_false (has_parameter a) (has_parameter b) h in
    let l = constant-same at other a p.0 in let r = constant-same at other b p.1 in
    ap (λ q. remainder q (value_of at b)) l ∙ ap (remainder (value_of other a)) r
constant-same at other (Floor' s (more_of-Expr a end_of-Expr) t (more_of-Expr b end_of-Expr)) h =
    let p = or_false (has_parameter a) (has_parameter b) h in
    let l = constant-same at other a p.0 in let r = constant-same at other b p.1 in
    ap (λ q. floor_quotient q (value_of at b)) l ∙ ap (floor_quotient (value_of other a)) r
constant-same at other (Ceil' s (more_of-Expr a end_of-Expr) t (more_of-Expr b end_of-Expr)) h =
    let p = or_false (has_parameter a) (has_parameter b) h in
    let l = constant-same at other a p.0 in let r = constant-same at other b p.1 in
    ap (λ q. ceil_quotient q (value_of at b)) l ∙ ap (ceil_quotient (value_of other a)) r

pub divisor-value : (at : Leaf → ℤ) (b : Expr) → IsDivisor b → pos 1 ≤ℤ value_of at b
divisor-value at b h = rw (constant-same at (leaves [] []) b h.0) h.1

-- ---- a number that is the value of an expression, within its bound
pub record Valued (at : Leaf → ℤ) (e : Expr) (x : ℤ) : Type 0 where
  pub value : x ≡ value_of at e
  pub bound : unsigned_abs x ≤ bound_of e

pub valued_kept : {at : Leaf → ℤ} {e : Expr} {x : ℤ} → Valued at e x → IsSound e → to_z w128 (of_z w128 x) ≡ x
valued_kept {at} {e} {x} v s = kept x (omega (arith, v.bound, sound-bound e s))

pub valued-Param : (at : Leaf → ℤ) (e : Expr) (leaf : Leaf) (r : ℤ) → e ≡ Param leaf → r ≡ at leaf → unsigned_abs r ≤ 2 ^ 63 → Valued at e r
valued-Param at e leaf r is h k = record {
  value = h ∙ sym (ap (value_of at) is ∙ value_of-Param at leaf);
  bound = rw (ap bound_of is ∙ bound_of-Param leaf) k;
}

pub valued-Const : (at : Leaf → ℤ) (e : Expr) (z : ℤ) → e ≡ Const z → Valued at e z
valued-Const at e z is = record {
  value = sym (ap (value_of at) is ∙ value_of-Const at z);
  bound = rw (ap bound_of is ∙ bound_of-Const z) (omega arith);
}

pub again : (at : Leaf → ℤ) (e : Expr) (x : ℤ) → IsSound e → Valued at e x → Valued at e (to_z w128 (of_z w128 x))
again at e x s v = let k = sym (valued_kept v s) in subst (Valued at e) k v

module _ (at : Leaf → ℤ) (e a : Expr) (x : ℤ) (is : e ≡ Neg a) (s : IsSound e) (v : Valued at a x) where
  part-Neg : IsSound a
  part-Neg = sound-Neg a (subst IsSound is s)

  pub room-Neg : unsigned_abs (to_z w128 (of_z w128 x)) ≤ 2 ^ 110
  room-Neg = rw (valued_kept v part-Neg) (omega (arith, v.bound, sound-bound a part-Neg))

  pub valued-Neg : (r : ℤ) → r ≡ neg_ℤ (to_z w128 (of_z w128 x)) → Valued at e r
  valued-Neg r h =
      let g : r ≡ neg_ℤ x = h ∙ ap neg_ℤ (valued_kept v part-Neg) in
      let n : bound_of e ≡ bound_of a = ap bound_of is ∙ bound_of-Neg a in
      let m : unsigned_abs r ≡ unsigned_abs x = ap unsigned_abs g ∙ abs-neg x in
      record {
        value = g ∙ ap neg_ℤ v.value ∙ sym (ap (value_of at) is ∙ value_of-Neg at a);
        bound = omega (arith, v.bound);
      }

module _ (at : Leaf → ℤ) (e a b : Expr) (x y : ℤ) (is : e ≡ Add a b) (s : IsSound e) (v : Valued at a x) (w : Valued at b y) where
  parts-Add : IsSound a × IsSound b × (bound_of a + bound_of b ≤ 2 ^ 110)
  parts-Add = sound-Add a b (subst IsSound is s)

  pub room-Add : unsigned_abs (to_z w128 (of_z w128 x)) + unsigned_abs (to_z w128 (of_z w128 y)) ≤ 2 ^ 110
  room-Add = rw (valued_kept v parts-Add.0, valued_kept w parts-Add.1) (omega (arith, v.bound, w.bound, parts-Add.2))

  pub valued-Add : (r : ℤ) → r ≡ to_z w128 (of_z w128 x) +ℤ to_z w128 (of_z w128 y) → Valued at e r
  valued-Add r h =
      let kx = valued_kept v parts-Add.0 in
      let ky = valued_kept w parts-Add.1 in
      let g : r ≡ x +ℤ y = cc in
      let n : bound_of e ≡ bound_of a + bound_of b = ap bound_of is ∙ bound_of-Add a b in
      let m : unsigned_abs r ≤ unsigned_abs x + unsigned_abs y = rw g (abs-sum x y) in
      let u = v.value in
      let z = w.value in
      record {
        value = cc (ap (value_of at) is ∙ value_of-Add at a b);
        bound = omega (arith, v.bound, w.bound);
      }

module _ (at : Leaf → ℤ) (e a b : Expr) (x y : ℤ) (is : e ≡ Sub a b) (s : IsSound e) (v : Valued at a x) (w : Valued at b y) where
  parts-Sub : IsSound a × IsSound b × (bound_of a + bound_of b ≤ 2 ^ 110)
  parts-Sub = sound-Sub a b (subst IsSound is s)

  pub room-Sub : unsigned_abs (to_z w128 (of_z w128 x)) + unsigned_abs (to_z w128 (of_z w128 y)) ≤ 2 ^ 110
  room-Sub = rw (valued_kept v parts-Sub.0, valued_kept w parts-Sub.1) (omega (arith, v.bound, w.bound, parts-Sub.2))

  pub valued-Sub : (r : ℤ) → r ≡ to_z w128 (of_z w128 x) -ℤ to_z w128 (of_z w128 y) → Valued at e r
  valued-Sub r h =
      let kx = valued_kept v parts-Sub.0 in
      let ky = valued_kept w parts-Sub.1 in
      let g : r ≡ x -ℤ y = cc in
      let n : bound_of e ≡ bound_of a + bound_of b = ap bound_of is ∙ bound_of-Sub a b in
      let m : unsigned_abs r ≤ unsigned_abs x + unsigned_abs y = rw g (abs-difference x y) in
      let u = v.value in
      let z = w.value in
      record {
        value = cc (ap (value_of at) is ∙ value_of-Sub at a b);
        bound = omega (arith, v.bound, w.bound);
      }

module _ (at : Leaf → ℤ) (e a b : Expr) (x y : ℤ) (is : e ≡ Mul a b) (s : IsSound e) (v : Valued at a x) (w : Valued at b y) where
  parts-Mul : IsSound a × IsSound b × ((bound_of a * bound_of b ≤ 2 ^ 110) × (IsFalse (has_parameter a) ⊎ IsFalse (has_parameter b)))
  parts-Mul = let p = sound-Mul a b (subst IsSound is s) in (p.0, p.1, (p.2, p.3))

  pub room-Mul : unsigned_abs (to_z w128 (of_z w128 x)) * unsigned_abs (to_z w128 (of_z w128 y)) ≤ 2 ^ 110
  room-Mul =
      let p = parts-Mul in
      rw (valued_kept v p.0, valued_kept w p.1)
      (omega (arith, mul-mono (unsigned_abs x) (unsigned_abs y) (bound_of a) (bound_of b) v.bound w.bound, p.2.0))

  pub valued-Mul : (r : ℤ) → r ≡ to_z w128 (of_z w128 x) *ℤ to_z w128 (of_z w128 y) → Valued at e r
  valued-Mul r h =
      let kx = valued_kept v parts-Mul.0 in
      let ky = valued_kept w parts-Mul.1 in
      let g : r ≡ x *ℤ y = cc in
      let n : bound_of e ≡ bound_of a * bound_of b = ap bound_of is ∙ bound_of-Mul a b in
      let u = v.value in
      let z = w.value in
      record {
        value = cc (ap (value_of at) is ∙ value_of-Mul at a b);
        bound = rw (g, n) (abs-product x y (bound_of a) (bound_of b) v.bound w.bound);
      }

module _ (at : Leaf → ℤ) (e a b : Expr) (x y : ℤ) (is : e ≡ Mod a b) (s : IsSound e) (v : Valued at a x) (w : Valued at b y) where
  parts-Mod : IsSound a × IsSound b × ((unsigned_abs (constant_value b) ≤ 2 ^ 110) × IsDivisor b)
  parts-Mod = let p = sound-Mod a b (subst IsSound is s) in (p.0, p.1, (p.2, p.3))

  divides-Mod : pos 1 ≤ℤ y
  divides-Mod = rw w.value (divisor-value at b parts-Mod.2.1)

  pub divisor-Mod : pos 1 ≤ℤ to_z w128 (of_z w128 y)
  divisor-Mod = rw (valued_kept w parts-Mod.1) divides-Mod

  pub room-Mod : unsigned_abs (to_z w128 (of_z w128 x)) ≤ 2 ^ 110
  room-Mod = rw (valued_kept v parts-Mod.0) (omega (arith, v.bound, sound-bound a parts-Mod.0))

  pub valued-Mod : (r : ℤ) → r ≡ remainder (to_z w128 (of_z w128 x)) (to_z w128 (of_z w128 y)) → Valued at e r
  valued-Mod r h =
      let kx = valued_kept v parts-Mod.0 in
      let ky = valued_kept w parts-Mod.1 in
      let g : r ≡ remainder x y = h ∙ ap (λ q. remainder q (to_z w128 (of_z w128 y))) kx ∙ ap (remainder x) ky in
      let n : bound_of e ≡ unsigned_abs (constant_value b) = ap bound_of is ∙ bound_of-Mod a b in
      let c : y ≡ constant_value b = w.value ∙ constant-same at (leaves [] []) b parts-Mod.2.1.0 in
      let m : unsigned_abs r ≤ unsigned_abs (constant_value b) = rw (g, ← c) (abs-remainder x y divides-Mod) in
      record {
        value = g ∙ ap (λ q. remainder q y) v.value ∙ ap (remainder (value_of at a)) w.value ∙ sym (ap (value_of at) is ∙ value_of-Mod at a b);
        bound = omega (arith, v.bound);
      }

module _ (at : Leaf → ℤ) (e a b : Expr) (x y : ℤ) (is : e ≡ Floor a b) (s : IsSound e) (v : Valued at a x) (w : Valued at b y) where
  parts-Floor : IsSound a × IsSound b × ((bound_of a + 1 ≤ 2 ^ 110) × IsDivisor b)
  parts-Floor = let p = sound-Floor a b (subst IsSound is s) in (p.0, p.1, (p.2, p.3))

  divides-Floor : pos 1 ≤ℤ y
  divides-Floor = rw w.value (divisor-value at b parts-Floor.2.1)

  pub divisor-Floor : pos 1 ≤ℤ to_z w128 (of_z w128 y)
  divisor-Floor = rw (valued_kept w parts-Floor.1) divides-Floor

  pub room-Floor : unsigned_abs (to_z w128 (of_z w128 x)) ≤ 2 ^ 110
  room-Floor = rw (valued_kept v parts-Floor.0) (omega (arith, v.bound, sound-bound a parts-Floor.0))

  pub valued-Floor : (r : ℤ) → r ≡ floor_quotient (to_z w128 (of_z w128 x)) (to_z w128 (of_z w128 y)) → Valued at e r
  valued-Floor r h =
      let kx = valued_kept v parts-Floor.0 in
      let ky = valued_kept w parts-Floor.1 in
      let g : r ≡ floor_quotient x y = h ∙ ap (λ q. floor_quotient q (to_z w128 (of_z w128 y))) kx ∙ ap (floor_quotient x) ky in
      let n : bound_of e ≡ bound_of a + 1 = ap bound_of is ∙ bound_of-Floor a b in
      let m : unsigned_abs r ≤ unsigned_abs x + 1 = rw g (abs-floor x y divides-Floor) in
      record {
        value = g ∙ ap (λ q. floor_quotient q y) v.value ∙ ap (floor_quotient (value_of at a)) w.value ∙ sym (ap (value_of at) is ∙ value_of-Floor at a b);
        bound = omega (arith, v.bound);
      }

module _ (at : Leaf → ℤ) (e a b : Expr) (x y : ℤ) (is : e ≡ Ceil a b) (s : IsSound e) (v : Valued at a x) (w : Valued at b y) where
  parts-Ceil : IsSound a × IsSound b × ((bound_of a + 1 ≤ 2 ^ 110) × IsDivisor b)
  parts-Ceil = let p = sound-Ceil a b (subst IsSound is s) in (p.0, p.1, (p.2, p.3))

  divides-Ceil : pos 1 ≤ℤ y
  divides-Ceil = rw w.value (divisor-value at b parts-Ceil.2.1)

  pub divisor-Ceil : pos 1 ≤ℤ to_z w128 (of_z w128 y)
  divisor-Ceil = rw (valued_kept w parts-Ceil.1) divides-Ceil

  pub room-Ceil : unsigned_abs (to_z w128 (of_z w128 x)) ≤ 2 ^ 110
  room-Ceil = rw (valued_kept v parts-Ceil.0) (omega (arith, v.bound, sound-bound a parts-Ceil.0))

  pub valued-Ceil : (r : ℤ) → r ≡ ceil_quotient (to_z w128 (of_z w128 x)) (to_z w128 (of_z w128 y)) → Valued at e r
  valued-Ceil r h =
      let kx = valued_kept v parts-Ceil.0 in
      let ky = valued_kept w parts-Ceil.1 in
      let g : r ≡ ceil_quotient x y = h ∙ ap (λ q. ceil_quotient q (to_z w128 (of_z w128 y))) kx ∙ ap (ceil_quotient x) ky in
      let n : bound_of e ≡ bound_of a + 1 = ap bound_of is ∙ bound_of-Ceil a b in
      let m : unsigned_abs r ≤ unsigned_abs x + 1 = rw g (abs-ceil x y divides-Ceil) in
      record {
        value = g ∙ ap (λ q. ceil_quotient q y) v.value ∙ ap (ceil_quotient (value_of at a)) w.value ∙ sym (ap (value_of at) is ∙ value_of-Ceil at a b);
        bound = omega (arith, v.bound);
      }
