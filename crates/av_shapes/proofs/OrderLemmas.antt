-- The sizes of a shape in another order.
use Rattle.std.proofs.Common.{◌≡◌, ℕ, ◌≤◌, zero, suc, ◌⊎◌, inl, inr, List, [], ◌∷◌, length, slice_index, arith, refl, ap, ◌∙◌, ◌-◌, Bool, true, false, Contains}
use Rattle.std.proofs.Math.Nat.{mul_comm, mul_assoc, mul_left_comm}
use Rattle.std.proofs.lemmas.List.{length-map}
use Rattle.av_shapes.specs.Shape.{ShapeView, AreSizes, product}
use Rattle.av_shapes.specs.Places.{scaled_last, extents, lanes}
use Rattle.av_shapes.specs.Order.{IsOrder, CanPermute, permuted_sizes}
use Rattle.av_shapes.proofs.ExtentLemmas.{length-extents}

-- an entry of a list of three is one of them
one_of_three : (a b c d : ℕ) → Contains (a ∷ b ∷ c ∷ []) d → (a ≡ d) ⊎ ((b ≡ d) ⊎ (c ≡ d))
one_of_three a b c d (zero, lt, e) = inl e
one_of_three a b c d (suc zero, lt, e) = inr (inl e)
one_of_three a b c d (suc (suc zero), lt, e) = inr (inr e)
one_of_three a b c d (suc (suc (suc k)), lt, e) = absurd (omega arith)

one_of_two : (a b d : ℕ) → Contains (a ∷ b ∷ []) d → (a ≡ d) ⊎ (b ≡ d)
one_of_two a b d (zero, lt, e) = inl e
one_of_two a b d (suc zero, lt, e) = inr e
one_of_two a b d (suc (suc k), lt, e) = absurd (omega arith)

one_of_one : (a d : ℕ) → Contains (a ∷ []) d → a ≡ d
one_of_one a d (zero, lt, e) = e
one_of_one a d (suc k, lt, e) = absurd (omega arith)

-- three sizes in another order have the same product
three_sizes : (x y z a b c : ℕ) → (a ≡ 0) ⊎ ((b ≡ 0) ⊎ (c ≡ 0)) → (a ≡ 1) ⊎ ((b ≡ 1) ⊎ (c ≡ 1))
    → (a ≡ 2) ⊎ ((b ≡ 2) ⊎ (c ≡ 2))
    → product (permuted_sizes (x ∷ y ∷ z ∷ []) (a ∷ b ∷ c ∷ [])) ≡ product (x ∷ y ∷ z ∷ [])
three_sizes x y z a b c zero_is one_is two_is = grind (arith, mul_comm, mul_assoc, mul_left_comm)

two_sizes : (x y a b : ℕ) → (a ≡ 0) ⊎ (b ≡ 0) → (a ≡ 1) ⊎ (b ≡ 1)
    → product (permuted_sizes (x ∷ y ∷ []) (a ∷ b ∷ [])) ≡ product (x ∷ y ∷ [])
two_sizes x y a b zero_is one_is = grind (arith, mul_comm, mul_assoc, mul_left_comm)

one_size : (x a : ℕ) → a ≡ 0 → product (permuted_sizes (x ∷ []) (a ∷ [])) ≡ product (x ∷ [])
one_size x a zero_is = rw zero_is refl

-- up to three sizes in another order have the same product
pub product-permuted_sizes : (sizes order : List ℕ) → 1 ≤ length sizes → length sizes ≤ 3
    → IsOrder (length sizes) order → product (permuted_sizes sizes order) ≡ product sizes
product-permuted_sizes [] order some few p = absurd (omega arith)
product-permuted_sizes (x ∷ []) [] some few p = absurd (omega arith)
product-permuted_sizes (x ∷ []) (a ∷ []) some few p =
    one_size x a (one_of_one a 0 (p.all 0 (omega arith)))
product-permuted_sizes (x ∷ []) (a ∷ b ∷ rest) some few p = absurd (omega arith)
product-permuted_sizes (x ∷ y ∷ []) [] some few p = absurd (omega arith)
product-permuted_sizes (x ∷ y ∷ []) (a ∷ []) some few p = absurd (omega arith)
product-permuted_sizes (x ∷ y ∷ []) (a ∷ b ∷ []) some few p =
    two_sizes x y a b (one_of_two a b 0 (p.all 0 (omega arith)))
    (one_of_two a b 1 (p.all 1 (omega arith)))
product-permuted_sizes (x ∷ y ∷ []) (a ∷ b ∷ c ∷ rest) some few p = absurd (omega arith)
product-permuted_sizes (x ∷ y ∷ z ∷ []) [] some few p = absurd (omega arith)
product-permuted_sizes (x ∷ y ∷ z ∷ []) (a ∷ []) some few p = absurd (omega arith)
product-permuted_sizes (x ∷ y ∷ z ∷ []) (a ∷ b ∷ []) some few p = absurd (omega arith)
product-permuted_sizes (x ∷ y ∷ z ∷ []) (a ∷ b ∷ c ∷ []) some few p =
    three_sizes x y z a b c (one_of_three a b c 0 (p.all 0 (omega arith)))
    (one_of_three a b c 1 (p.all 1 (omega arith))) (one_of_three a b c 2 (p.all 2 (omega arith)))
product-permuted_sizes (x ∷ y ∷ z ∷ []) (a ∷ b ∷ c ∷ d ∷ rest) some few p = absurd (omega arith)
product-permuted_sizes (x ∷ y ∷ z ∷ w ∷ rest) order some few p = absurd (omega arith)

-- they are the sizes of a shape
pub permuted-AreSizes : (sizes order : List ℕ) → AreSizes sizes → IsOrder (length sizes) order
    → AreSizes (permuted_sizes sizes order)
permuted-AreSizes sizes order are p =
    let same = product-permuted_sizes sizes order are.0 are.1 p in
    let f : ℕ → ℕ = λ d. slice_index sizes d in
    let count = length-map order f in
    (omega arith, omega arith, omega arith, omega arith)

-- a last size that stays where it is counts times the scale in either order
two_scaled : (scale x y a b : ℕ) → (a ≡ 0) ⊎ (b ≡ 0) → b ≡ 1
    → scaled_last scale (permuted_sizes (x ∷ y ∷ []) (a ∷ b ∷ []))
    ≡ permuted_sizes (scaled_last scale (x ∷ y ∷ [])) (a ∷ b ∷ [])
two_scaled scale x y a b zero_is stays = grind arith

three_scaled : (scale x y z a b c : ℕ) → (a ≡ 0) ⊎ ((b ≡ 0) ⊎ (c ≡ 0))
    → (a ≡ 1) ⊎ ((b ≡ 1) ⊎ (c ≡ 1)) → c ≡ 2
    → scaled_last scale (permuted_sizes (x ∷ y ∷ z ∷ []) (a ∷ b ∷ c ∷ []))
    ≡ permuted_sizes (scaled_last scale (x ∷ y ∷ z ∷ [])) (a ∷ b ∷ c ∷ [])
three_scaled scale x y z a b c zero_is one_is stays = grind arith

scaled-permuted_sizes : (scale : ℕ) (sizes order : List ℕ) → 1 ≤ length sizes → length sizes ≤ 3
    → IsOrder (length sizes) order → slice_index order (length sizes - 1) ≡ length sizes - 1
    → scaled_last scale (permuted_sizes sizes order) ≡ permuted_sizes (scaled_last scale sizes) order
scaled-permuted_sizes scale [] order some few p stays = absurd (omega arith)
scaled-permuted_sizes scale (x ∷ []) [] some few p stays = absurd (omega arith)
scaled-permuted_sizes scale (x ∷ []) (a ∷ []) some few p stays = rw stays refl
scaled-permuted_sizes scale (x ∷ []) (a ∷ b ∷ rest) some few p stays = absurd (omega arith)
scaled-permuted_sizes scale (x ∷ y ∷ []) [] some few p stays = absurd (omega arith)
scaled-permuted_sizes scale (x ∷ y ∷ []) (a ∷ []) some few p stays = absurd (omega arith)
scaled-permuted_sizes scale (x ∷ y ∷ []) (a ∷ b ∷ []) some few p stays =
    two_scaled scale x y a b (one_of_two a b 0 (p.all 0 (omega arith))) stays
scaled-permuted_sizes scale (x ∷ y ∷ []) (a ∷ b ∷ c ∷ rest) some few p stays = absurd (omega arith)
scaled-permuted_sizes scale (x ∷ y ∷ z ∷ []) [] some few p stays = absurd (omega arith)
scaled-permuted_sizes scale (x ∷ y ∷ z ∷ []) (a ∷ []) some few p stays = absurd (omega arith)
scaled-permuted_sizes scale (x ∷ y ∷ z ∷ []) (a ∷ b ∷ []) some few p stays = absurd (omega arith)
scaled-permuted_sizes scale (x ∷ y ∷ z ∷ []) (a ∷ b ∷ c ∷ []) some few p stays =
    three_scaled scale x y z a b c (one_of_three a b c 0 (p.all 0 (omega arith)))
    (one_of_three a b c 1 (p.all 1 (omega arith))) stays
scaled-permuted_sizes scale (x ∷ y ∷ z ∷ []) (a ∷ b ∷ c ∷ d ∷ rest) some few p stays =
    absurd (omega arith)
scaled-permuted_sizes scale (x ∷ y ∷ z ∷ w ∷ rest) order some few p stays = absurd (omega arith)

-- the extents of a permuted shape at a scale
extents_at : (scalable : Bool) (sizes order : List ℕ) (scale : ℕ) → AreSizes sizes
    → CanPermute (record { sizes = sizes; scalable = scalable }) order
    → extents (record { sizes = permuted_sizes sizes order; scalable = scalable }) scale
    ≡ permuted_sizes (extents (record { sizes = sizes; scalable = scalable }) scale) order
extents_at true sizes order scale are p =
    scaled-permuted_sizes scale sizes order are.0 are.1 p.permutation (p.scalable_stays refl)
extents_at false sizes order scale are p = refl

pub extents-permuted : (v : ShapeView) (order : List ℕ) (scale : ℕ) → AreSizes v.sizes
    → CanPermute v order
    → extents (record { sizes = permuted_sizes v.sizes order; scalable = v.scalable }) scale
    ≡ permuted_sizes (extents v scale) order
extents-permuted v order scale are p = extents_at v.scalable v.sizes order scale are p

-- a permuted shape has as many elements
pub lanes-permuted : (v : ShapeView) (order : List ℕ) (scale : ℕ) → AreSizes v.sizes
    → CanPermute v order
    → lanes (record { sizes = permuted_sizes v.sizes order; scalable = v.scalable }) scale
    ≡ lanes v scale
lanes-permuted v order scale are p =
    let count = length-extents v scale in
    let q : IsOrder (length (extents v scale)) order = rw count p.permutation in
    ap product (extents-permuted v order scale are p)
    ∙ product-permuted_sizes (extents v scale) order (omega arith) (omega arith) q
