-- Products of whole numbers.
use Rattle.std.proofs.Common.{◌≡◌, ◌+◌, ◌*◌, ap, ◌∙◌, arith}
use Rattle.std.specs.Prelude.{ℤ, ◌+ℤ◌, ◌*ℤ◌}
use Rattle.std.proofs.lemmas.Int.{ints}
use lib.IntN.{*ℤ_comm}
use borrow.Author.Differences.{up, down}

-- a number is `up` less `down`
apart_sum : (x y z : ℤ) → z ≡ x +ℤ y → up z + (down x + down y) ≡ down z + (up x + up y)
apart_sum x y z e = omega (arith, ints)

apart_product : (x y z : ℤ) → z ≡ x *ℤ y → up z + (up x * down y + down x * up y) ≡ down z + (up x * up y + down x * down y)
apart_product x y z e = omega (arith, ints)

product-sum : (a x y z : ℤ) → z ≡ x +ℤ y → a *ℤ z ≡ a *ℤ x +ℤ a *ℤ y
product-sum a x y z e =
    let s : up z + (down x + down y) ≡ down z + (up x + up y) = apart_sum x y z e in
    omega (arith, ints, ap (λ n. up a * n) s, ap (λ n. down a * n) s)

pub mul-sum : (a x y : ℤ) → a *ℤ (x +ℤ y) ≡ a *ℤ x +ℤ a *ℤ y
mul-sum a x y = let e : x +ℤ y ≡ x +ℤ y = λ i. x +ℤ y in product-sum a x y (x +ℤ y) e

pub sum-mul : (x y k : ℤ) → (x +ℤ y) *ℤ k ≡ x *ℤ k +ℤ y *ℤ k
sum-mul x y k = *ℤ_comm (x +ℤ y) k ∙ mul-sum k x y ∙ ap (λ u. u +ℤ k *ℤ y) (*ℤ_comm k x) ∙ ap (λ u. x *ℤ k +ℤ u) (*ℤ_comm k y)

product-product : (a b c p q : ℤ) → p ≡ a *ℤ b → q ≡ b *ℤ c → p *ℤ c ≡ a *ℤ q
product-product a b c p q e f =
    let s = apart_product a b p e in
    let t = apart_product b c q f in
    omega (arith, ints, ap (λ n. up c * n) s, ap (λ n. down c * n) s, ap (λ n. up a * n) t, ap (λ n. down a * n) t)

pub mul-mul : (a b c : ℤ) → a *ℤ b *ℤ c ≡ a *ℤ (b *ℤ c)
mul-mul a b c = product-product a b c (a *ℤ b) (b *ℤ c) (λ i. a *ℤ b) (λ i. b *ℤ c)
