-- The product of sizes, one size after the other, held at the greatest number of 64 bits.
use Rattle.std.proofs.Common.{◌≡◌, ℕ, zero, suc, ◌+◌, ◌-◌, ◌*◌, ◌^◌, ◌<◌, ◌≤◌, List, [], ◌∷◌, ◌++◌, length, get_or, take, min, arith, ap, sym, ◌∙◌, inl, inr}
use Rattle.std.proofs.lemmas.Bool.{cases_lt}
use Rattle.std.proofs.Math.Nat.{mul-one, one-mul, mul-zero, mul_assoc, mul-le-mul}
use Rattle.std.proofs.lemmas.List.{take_more}
use Rattle.av_shapes.specs.Shape.{product}

product-append : (ms ns : List ℕ) → product (ms ++ ns) ≡ product ms * product ns
product-append [] ns = sym (one-mul (product ns))
product-append (m ∷ ms) ns = ap (λ k. m * k) (product-append ms ns) ∙ sym (mul_assoc m (product ms) (product ns))

small : (p limit : ℕ) → p ≤ limit → min p limit ≡ p
small p limit h = omega arith

decide : (p limit : ℕ) {X : Type 0} → (p ≤ limit → X) → (limit < p → X) → X
decide p limit f g = elim (cases_lt limit p) [ inl h ↦ g h | inr h ↦ f h ]

-- holding a factor at a limit first changes no held product
held_factor : (p n limit : ℕ) → min (min p limit * n) limit ≡ min (p * n) limit
held_factor p zero limit = ap (λ k. min k limit) (mul-zero (min p limit) ∙ sym (mul-zero p))
held_factor p (suc n) limit =
    let a : min p limit * suc n ≤ p * suc n = mul-le-mul (omega arith) (omega arith) in
    let b : min p limit * 1 ≤ min p limit * suc n = mul-le-mul (omega arith) (omega arith) in
    let d : p * 1 ≤ p * suc n = mul-le-mul (omega arith) (omega arith) in
    let e : p ≤ limit → min p limit * suc n ≡ p * suc n = λ h. ap (λ k. k * suc n) (small p limit h) in
    decide p limit (λ h. ap (λ k. min k limit) (e h)) (λ h. omega arith)

pub held : (ns : List ℕ) (i all size more : ℕ) → i < length ns → size ≡ get_or ns i 0 → more ≡ min (all * size) (2 ^ 64 - 1)
    → all ≡ min (product (take i ns)) (2 ^ 64 - 1) → more ≡ min (product (take (i + 1) ns)) (2 ^ 64 - 1)
held ns i all size more below is multiplied h =
    let one : product (take (i + 1) ns) ≡ product (take i ns) * size =
    ap product (take_more ns i 0 below) ∙ product-append (take i ns) (get_or ns i 0 ∷ []) ∙ ap (λ k. product (take i ns) * k) (mul-one (get_or ns i 0) ∙ sym is) in
    multiplied ∙ ap (λ k. min (k * size) (2 ^ 64 - 1)) h ∙ held_factor (product (take i ns)) size (2 ^ 64 - 1)
    ∙ ap (λ k. min k (2 ^ 64 - 1)) (sym one)
