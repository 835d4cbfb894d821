-- Places of index tuples.
use Rattle.std.proofs.Common.{◌≡◌, ℕ, ◌+◌, ◌*◌, ◌/◌, ◌%◌, ◌<◌, ◌≤◌, suc, List, [], ◌∷◌, length, get_or, drop, arith, ap, ◌∙◌, refl, subst}
use Rattle.std.proofs.Math.Nat.{mul_assoc, mul_comm, add-mul, add_assoc}
use Rattle.std.proofs.lemmas.List.{drop_more, drop_all}
use Rattle.std.proofs.lemmas.Nat.{mul-add-lt, same_from_place, div_below, mod_below, div-add-mod'}
use Rattle.av_shapes.specs.Shape.{product}
use Rattle.av_shapes.specs.Places.{IsWithin, place}
use Rattle.av_shapes.proofs.Products.{factors, rest-positive, le-product_first}

-- a tuple has one index for each extent
pub as_many : (ns at : List ℕ) → IsWithin ns at → length at ≡ length ns
as_many [] [] h = refl
as_many [] (i ∷ is) h = absurd h
as_many (n ∷ ns) [] h = absurd h
as_many (n ∷ ns) (i ∷ is) h = ap (λ k. suc k) (as_many ns is h.1)

-- a place is below the number of elements
pub place-below : (ns at : List ℕ) → IsWithin ns at → place ns at < product ns
place-below [] [] h = omega arith
place-below [] (i ∷ is) h = absurd h
place-below (n ∷ ns) [] h = absurd h
place-below (n ∷ ns) (i ∷ is) h =
    subst (λ (k : ℕ). i * product ns + place ns is < k) (mul_comm (product ns) n)
    (mul-add-lt i (product ns) (place ns is) n h.0 (place-below ns is h.1))

-- a tuple is told by its place
pub place-injective : (ns at other : List ℕ) → IsWithin ns at → IsWithin ns other
    → place ns at ≡ place ns other → at ≡ other
place-injective [] [] [] h g e = refl
place-injective [] [] (j ∷ js) h g e = absurd g
place-injective [] (i ∷ is) other h g e = absurd h
place-injective (n ∷ ns) [] other h g e = absurd h
place-injective (n ∷ ns) (i ∷ is) [] h g e = absurd g
place-injective (n ∷ ns) (i ∷ is) (j ∷ js) h g e =
    let s = same_from_place i (place ns is) j (place ns js) (product ns) (place-below ns is h.1)
    (place-below ns js g.1) e in
    let t = place-injective ns is js h.1 g.1 s.1 in cc

-- each number below the number of elements is a place
pub place-surjective : (ns : List ℕ) (k : ℕ) → k < product ns
    → (at : List ℕ) × IsWithin ns at × (place ns at ≡ k)
place-surjective [] k h = ([], tt, omega arith)
place-surjective (n ∷ ns) k h =
    let p = (factors n (product ns) (omega arith)).1 in
    let t = place-surjective ns (k % product ns) (mod_below k (product ns) p) in
    (k / product ns ∷ t.0, (div_below k (product ns) n p h, t.1), ap (λ q. k / product ns * product ns + q) t.2 ∙ div-add-mod' k (product ns))

-- the first d indexes of a tuple are read: `found` is the place in the extents that belong to them
pub record IsReadTo (ns at : List ℕ) (d found : ℕ) : Type 0 where
  pub value : found * product (drop d ns) + place (drop d ns) (drop d at) ≡ place ns at
  pub within : IsWithin (drop d ns) (drop d at)

pub nothing_read : (ns at : List ℕ) → IsWithin ns at → IsReadTo ns at 0 0
nothing_read ns at h = record { value = omega arith; within = h }

-- one more digit of a number, of which p values follow
one_more_digit : (found n i p q : ℕ) → (found * n + i) * p + q ≡ found * (n * p) + (i * p + q)
one_more_digit found n i p q =
    rw (add-mul (found * n) i p, mul_assoc found n p, add_assoc (found * (n * p)) (i * p) q) refl

-- one more index is read
pub read_more : (ns at : List ℕ) (d found : ℕ) → d < length ns → d < length at
    → IsReadTo ns at d found → IsReadTo ns at (d + 1) (found * get_or ns d 0 + get_or at d 0)
read_more ns at d found below_ns below_at r =
    let en = drop_more ns d 0 below_ns in
    let ea = drop_more at d 0 below_at in
    record {
      value =
          one_more_digit found (get_or ns d 0) (get_or at d 0) (product (drop (d + 1) ns))
          (place (drop (d + 1) ns) (drop (d + 1) at))
          ∙ rw (en, ea) at r.value;
      within = (rw (en, ea) at r.within).1;
    }

-- what is found is below the number of elements
pub found-below : (ns at : List ℕ) (d found : ℕ) → 1 ≤ product ns → IsWithin ns at
    → IsReadTo ns at d found → found < product ns
found-below ns at d found positive h r =
    omega (
      arith,
      r.value,
      place-below ns at h,
      le-product_first found (product (drop d ns)) (rest-positive ns d positive),
    )

-- all indexes are read
pub all_read : (ns at : List ℕ) (d found : ℕ) → length ns ≤ d → IsReadTo ns at d found
    → found ≡ place ns at
all_read ns at d found behind r = let v = rw (drop_all d ns behind) at r.value in omega arith
