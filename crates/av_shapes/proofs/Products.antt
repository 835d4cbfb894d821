-- Products of sizes.
use Rattle.std.proofs.Common.{◌≡◌, ℕ, ◌+◌, ◌*◌, ◌^◌, ◌<◌, ◌≤◌, zero, suc, List, [], ◌∷◌, length, get_or, drop, arith, ap, sym, ◌∙◌, add-one}
use Rattle.std.proofs.Math.Nat.{mul_assoc, mul-le-mul, one-mul, mul-one, mul-zero, zero-mul, pow-suc, pow-le-pow_right}
use Rattle.std.proofs.lemmas.List.{drop_more}
use Rattle.av_shapes.specs.Shape.{AreSizes, product}
use Rattle.av_shapes.specs.Places.{scaled_last}

-- the factors of a product that isn't 0 aren't 0
pub factors : (m n : ℕ) → 1 ≤ m * n → (1 ≤ m) × (1 ≤ n)
factors zero n h = let g : 1 ≤ 0 = rw zero-mul at h in absurd (omega arith)
factors (suc m) zero h = let g : 1 ≤ 0 = rw mul-zero at h in absurd (omega arith)
factors (suc m) (suc n) h = (omega arith, omega arith)

-- a product is no less than a factor where the other isn't 0
pub le-product_first : (m n : ℕ) → 1 ≤ n → m ≤ m * n
le-product_first m n h = let e : m * 1 ≤ m * n = mul-le-mul (omega arith) h in rw mul-one at e

pub le-product_second : (m n : ℕ) → 1 ≤ m → n ≤ m * n
le-product_second m n h = let e : 1 * n ≤ m * n = mul-le-mul h (omega arith) in rw one-mul at e

-- each size is from 1 to the product
pub size-bounds : (ns : List ℕ) (d : ℕ) → d < length ns → 1 ≤ product ns
    → (1 ≤ get_or ns d 0) × (get_or ns d 0 ≤ product ns)
size-bounds [] d below h = absurd (omega arith)
size-bounds (n ∷ ns) zero below h =
    let f = factors n (product ns) h in (f.0, le-product_first n (product ns) f.1)
size-bounds (n ∷ ns) (suc d) below h =
    let f = factors n (product ns) h in
    let s = size-bounds ns d (omega arith) f.1 in
    (s.0, omega (arith, s.1, le-product_second n (product ns) f.0))

-- a size of a shape, alone or times a scale
pub extent-bounds : (ns : List ℕ) (d scale : ℕ) → d < length ns → AreSizes ns → 1 ≤ scale
    → (1 ≤ get_or ns d 0) × (get_or ns d 0 ≤ 256 * scale)
extent-bounds ns d scale below are positive =
    let s = size-bounds ns d below are.2 in
    (s.0, omega (arith, s.1, are.3, le-product_first 256 scale positive))

pub scaled-bounds : (ns : List ℕ) (d scale : ℕ) → d < length ns → AreSizes ns → 1 ≤ scale
    → (1 ≤ get_or ns d 0 * scale) × (get_or ns d 0 * scale ≤ 256 * scale)
scaled-bounds ns d scale below are positive =
    let s = size-bounds ns d below are.2 in
    let high : get_or ns d 0 * scale ≤ 256 * scale = mul-le-mul (omega (arith, s.1, are.3)) (omega arith) in
    (omega (arith, s.0, le-product_first (get_or ns d 0) scale positive), high)

-- what is left of a product that isn't 0 isn't 0
pub rest-positive : (ns : List ℕ) (d : ℕ) → 1 ≤ product ns → 1 ≤ product (drop d ns)
rest-positive ns zero h = h
rest-positive [] (suc d) h = omega arith
rest-positive (n ∷ ns) (suc d) h = rest-positive ns d (factors n (product ns) h).1

-- a last size times the scale makes the product times the scale
pub product-scaled_last : (scale : ℕ) (ns : List ℕ) → 1 ≤ length ns
    → product (scaled_last scale ns) ≡ product ns * scale
product-scaled_last scale [] h = absurd (omega arith)
product-scaled_last scale (n ∷ []) h = mul-one (n * scale) ∙ ap (λ k. k * scale) (sym (mul-one n))
product-scaled_last scale (n ∷ m ∷ ms) h =
    ap (λ k. n * k) (product-scaled_last scale (m ∷ ms) (omega arith))
    ∙ sym (mul_assoc n (product (m ∷ ms)) scale)

pub length-scaled_last : (scale : ℕ) (ns : List ℕ) → length (scaled_last scale ns) ≡ length ns
length-scaled_last scale [] = omega arith
length-scaled_last scale (n ∷ []) = omega arith
length-scaled_last scale (n ∷ m ∷ ms) = ap (λ k. suc k) (length-scaled_last scale (m ∷ ms))

-- the product of the first i sizes and of those that are left
pub one_more : (ns : List ℕ) (i all : ℕ) → i < length ns → all * product (drop i ns) ≡ product ns
    → all * get_or ns i 0 * product (drop (i + 1) ns) ≡ product ns
one_more ns i all below h =
    let e : product (drop i ns) ≡ get_or ns i 0 * product (drop (i + 1) ns) =
    ap product (drop_more ns i 0 below) in
    mul_assoc all (get_or ns i 0) (product (drop (i + 1) ns)) ∙ ap (λ k. all * k) (sym e) ∙ h

-- one more size of 16 bits
pub size_fits : (i all n : ℕ) → all ≤ 65535 ^ i → n ≤ 65535 → all * n ≤ 65535 ^ (i + 1)
size_fits i all n a b =
    rw (add-one, pow-suc 65535 i) (mul-le-mul a b)

-- the product of up to three sizes of 16 bits fits
pub three_fit : (i all : ℕ) → i ≤ 3 → all ≤ 65535 ^ i → all ≤ 281462092005375
three_fit i all few h =
    let e : 65535 ^ i ≤ 65535 ^ 3 = pow-le-pow_right (omega arith) few in omega arith
